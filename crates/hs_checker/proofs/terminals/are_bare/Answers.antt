use Rattle.std.proofs.Common.{subst, ℕ, List, get_or}
use Rattle.std.proofs.lemmas.List.{take_all, get_or_default}
use Rattle.hs_checker.specs.Slots.{AreBare}
use Rattle.hs_checker.specs.Numbers.{entries_of}
use Rattle.hs_checker.proofs.InstanceLemmas.{bare_more}
use Rattle.hs_checker.proofs.RowLemmas.{nothing_at}
use Rattle.hs_checker.proofs.terminals.are_bare.Goals as goal

pub loop-arg-preserved : goal.loop-arg-preserved
loop-arg-preserved c = λ I.
    let us = c.args.args.now in
    let k = c.loop-arg.arg-index in
    let u = get_or us k 0 in
    bare_more (entries_of I c.args.index.now) us k u c.loop-arg-test.true (get_or_default us k 0 u c.loop-arg-test.true) (c.loop-arg.invariant I)
    (λ a h. nothing_at I c.args.index.now c.at_point.result.now u c.at_point.ensures.has c.if-not-is_empty.ensures h.entry h.there h.at)

pub returns : goal.returns
returns c = λ I _. subst (λ (us : List ℕ). AreBare (entries_of I c.args.index.now) us) (take_all c.loop-arg.arg-index c.args.args.now c.loop-arg-test.false) (c.loop-arg.invariant I)
