use Rattle.hs_scheme.proofs.Lists.{none_in}
use Rattle.hs_table.specs.Types.{arrows}
use Rattle.hs_types.specs.Interned.{RowData, IsRow, type_of_id, env_of_id}
use Rattle.hs_strength.proofs.Rows.{each_more, each_all}
use Rattle.hs_minimal.specs.Strongest.{HasAskedFor}
use Rattle.hs_minimal.proofs.CoverLemmas.{at_index}
use Rattle.hs_minimal.proofs.AskedLemmas.{adds_none, adds_then, asked_stay, none_seen}
use Rattle.hs_minimal.proofs.asked.add_asked.Goals as goal

pub loop-row-init : goal.loop-row-init
loop-row-init c = record { adds = adds_none c.args.types.now c.args.found.now.keys; own = λ r m. absurd (none_in r m); seen = none_seen c.args.types.now c.args.found.now.keys c.new-seen.result.keys c.new-seen.ensures.empty }

pub add_asked_by-requires-clause-row : goal.add_asked_by-requires-clause-row
add_asked_by-requires-clause-row c = at_index (IsRow c.args.types.now) c.args.rows.now c.loop-row.row-index c.row-item.result c.requires c.loop-row-test.true c.row-item.is

pub loop-row-preserved : goal.loop-row-preserved
loop-row-preserved c =
    let I = c.args.types.now in
    let old = c.loop-row.found.keys in
    let new = c.add_asked_by.new.found.keys in
    let adds = c.in_ok-add_asked_by.ensures.adds in
    record {
      adds = adds_then I c.args.found.now.keys old new c.loop-row.invariant.adds adds;
      own = each_more (λ (r : RowData). HasAskedFor I new (arrows (env_of_id I r.env) (type_of_id I r.ty))) c.args.rows.now c.loop-row.row-index c.row-item.result c.loop-row-test.true c.row-item.is
          (λ r m. asked_stay I old new adds (arrows (env_of_id I r.env) (type_of_id I r.ty)) (c.loop-row.invariant.own r m)) c.in_ok-add_asked_by.ensures.own;
      seen = c.in_ok-add_asked_by.ensures.seen;
    }

pub returns-clause-own : goal.returns-clause-own
returns-clause-own c =
    let I = c.args.types.now in
    each_all (λ (r : RowData). HasAskedFor I c.loop-row.found.keys (arrows (env_of_id I r.env) (type_of_id I r.ty))) c.args.rows.now c.loop-row.row-index c.loop-row-test.false c.loop-row.invariant.own
