use Rattle.std.proofs.Common.{get_or}
use Rattle.std.proofs.lemmas.List.{get_or_default}
use Rattle.hs_scheme.specs.declared.flow.FlowPair.{FlowPair}
use Rattle.hs_table.specs.Types.{TypeTree}
use Rattle.hs_heads.specs.Sources.{FromSome, FlowSays, AtRow}
use Rattle.hs_heads.proofs.Gaining.{some_none, some_next, some_all, gains_same}
use Rattle.hs_heads.proofs.RowLemmas.{at_row, part_within}
use Rattle.hs_heads.proofs.rows.add_flow.Goals as goal

pub loop-pair-init : goal.loop-pair-init
loop-pair-init c =
    some_none (λ (d : FlowPair). AtRow (FlowSays c.args.types.now c.args.reads.now c.args.point) c.args.table.now d.point) c.args.pairs.now c.args.types.now c.args.found.now.keys

pub add_rows-requires : goal.add_rows-requires
add_rows-requires c = part_within c.args.types.now c.args.table.now _ c.rows_at.result.now c.rows_at.ensures c.requires.table

pub loop-pair-preserved : goal.loop-pair-preserved
loop-pair-preserved c =
    let I = c.args.types.now in
    let table = c.args.table.now in
    let From : FlowPair → TypeTree → Type 0 = λ d. AtRow (FlowSays I c.args.reads.now c.args.point) table d.point in
    let pairs = c.args.pairs.now in
    let k = c.loop-pair.pair-index in
    let none : FlowPair = record { rule = 0; param = 0; point = 0 } in
    let d = get_or pairs k none in
    let mid = c.loop-pair.found.keys in
    let new = c.add_rows.new.found.keys in
    some_next From pairs I I I k d c.args.found.now.keys mid new c.loop-pair-test.true (get_or_default pairs k none d c.loop-pair-test.true) c.loop-pair.invariant
    (gains_same I I (FromSome (FlowSays I c.args.reads.now c.args.point) c.rows_at.result.now) (From d) mid new
    (at_row (FlowSays I c.args.reads.now c.args.point) table c.rows_at.result.now d.point c.rows_at.ensures) c.in_ok-add_rows.ensures)

pub returns : goal.returns
returns c =
    let I = c.args.types.now in
    some_all (λ (d : FlowPair). AtRow (FlowSays I c.args.reads.now c.args.point) c.args.table.now d.point) c.args.pairs.now I I c.loop-pair.pair-index c.args.found.now.keys c.loop-pair.found.keys c.loop-pair-test.false c.loop-pair.invariant
