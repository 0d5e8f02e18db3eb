use Rattle.std.proofs.Common.{Contains}
use Rattle.hs_scheme.proofs.Lists.{none_in}
use Rattle.hs_types.specs.Interned.{RowData, IsRow, type_of_id}
use Rattle.hs_strength.proofs.Rows.{each_more, each_all}
use Rattle.hs_minimal.specs.Strongest.{IsNoState}
use Rattle.hs_minimal.proofs.CoverLemmas.{at_index}
use Rattle.hs_minimal.proofs.AskedLemmas.{adds_none, adds_then}
use Rattle.hs_minimal.proofs.asked.add_types.Goals as goal

pub loop-row-init : goal.loop-row-init
loop-row-init c = record { adds = adds_none c.args.types.now c.args.found.now.keys; own = λ r m. absurd (none_in r m) }

pub add_arrow-requires : goal.add_arrow-requires
add_arrow-requires c = (at_index (IsRow c.args.types.now) c.args.rows.now c.loop-row.row-index c.row-item.result c.requires c.loop-row-test.true c.row-item.is).1

pub loop-row-preserved : goal.loop-row-preserved
loop-row-preserved c =
    let I = c.args.types.now in
    let adds = c.in_ok-add_arrow.ensures.adds in
    record {
      adds = adds_then I c.args.found.now.keys c.loop-row.found.keys c.add_arrow.new.found.keys c.loop-row.invariant.adds adds;
      own = each_more (λ (r : RowData). IsNoState (type_of_id I r.ty) → Contains c.add_arrow.new.found.keys r.ty) c.args.rows.now c.loop-row.row-index c.row-item.result c.loop-row-test.true c.row-item.is
          (λ r m arrow. adds.keeps r.ty (c.loop-row.invariant.own r m arrow)) c.in_ok-add_arrow.ensures.own;
    }

pub returns-clause-own : goal.returns-clause-own
returns-clause-own c =
    let I = c.args.types.now in
    each_all (λ (r : RowData). IsNoState (type_of_id I r.ty) → Contains c.loop-row.found.keys r.ty) c.args.rows.now c.loop-row.row-index c.loop-row-test.false c.loop-row.invariant.own
