use Rattle.std.proofs.Common.{ℕ, get_or}
use Rattle.std.proofs.lemmas.List.{get_or_default}
use Rattle.hs_minimal.proofs.GatheringLemmas.{some_none, some_next, some_all, of_numbers}
use Rattle.hs_minimal.proofs.gathering.add_args.Goals as goal

pub loop-arg-init : goal.loop-arg-init
loop-arg-init c = some_none c.args.growing.now (λ (u : ℕ). u) c.args.args.now c.args.rows.now.items

pub loop-arg-preserved : goal.loop-arg-preserved
loop-arg-preserved c =
    let args = c.args.args.now in
    let k = c.loop-arg.arg-index in
    let u = get_or args k 0 in
    some_next c.args.growing.now (λ (u : ℕ). u) args c.args.rows.now.items k u c.loop-arg-test.true (get_or_default args k 0 u c.loop-arg-test.true) c.loop-arg.rows.items c.add_rows.new.rows.items c.loop-arg.invariant c.in_ok-add_rows.ensures

pub returns : goal.returns
returns c = of_numbers c.args.growing.now c.args.args.now c.args.rows.now.items c.loop-arg.rows.items
    (some_all c.args.growing.now (λ (u : ℕ). u) c.args.args.now c.args.rows.now.items c.loop-arg.arg-index c.loop-arg-test.false c.loop-arg.rows.items c.loop-arg.invariant)
