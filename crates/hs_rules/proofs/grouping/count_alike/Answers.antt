use Rattle.std.proofs.Common.{sym, ◌∙◌, subst, List, length, arith, inl, inr, Contains}
use Rattle.std.proofs.lemmas.Bool.{OnTrue_at}
use Rattle.std.proofs.lemmas.List.{take_all}
use Rattle.hs_scheme.proofs.Lists.{none_in}
use Rattle.hs_rules.specs.Found.{HeadData, IsAlike}
use Rattle.hs_rules.proofs.Lists.{taken_cases}
use Rattle.hs_rules.proofs.grouping.count_alike.Goals as goal

pub loop-place-init : goal.loop-place-init
loop-place-init c = λ h there. absurd (none_in h there)

pub loop-place-preserved : goal.loop-place-preserved
loop-place-preserved c = λ h there. elim (taken_cases c.args.others.now c.loop-place.place c.index-others-place.result h c.loop-place-test.true c.index-others-place.is there) [
  | inl was ↦ c.loop-place.invariant h was
  | inr is ↦ subst (λ (y : HeadData). IsAlike c.args.head.now y) (sym is) (OnTrue_at c.if-not-same.false c.are_alike-same.ensures)
]

pub returns-clause-alike : goal.returns-clause-alike
returns-clause-alike c = λ h there.
    let others = c.args.others.now in
    c.loop-place.invariant h (subst (λ (xs : List HeadData). Contains xs h) (take_all (length others) others (omega arith) ∙ sym (take_all c.loop-place.place others c.loop-place-test.false)) there)
