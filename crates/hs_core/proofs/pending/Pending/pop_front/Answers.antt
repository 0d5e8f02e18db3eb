use Rattle.std.proofs.Common.{refl, sym, ap, ◌∙◌, drop, arith}
use Rattle.hs_core.proofs.Stretches.{first_shorter, shorter_length}
use Rattle.hs_core.proofs.pending.Pending.pop_front.Goals as goal

pub invariant_of-self-2 : goal.invariant_of-self-2
invariant_of-self-2 c =
    let a = c.self.inside in
    let some = c.in-Some.ensures.variant.0 refl in (
      shorter_length a.stretches.items c.in-Some.stretch.now _ (omega (arith, a.stretches.ok.0)) (sym c.in-Some.ensures.value) c.next_work-stretch.ensures refl c.if-stretch-eq0.false a.len c.self.invariant.0,
      omega (arith, c.self.invariant.1),
      omega (arith, c.self.invariant.2),
    )

pub returns-clause-works : goal.returns-clause-works
returns-clause-works c =
    let a = c.self.inside in
    let some = c.in-Some.ensures.variant.0 refl in
    sym (ap (λ ws. drop 1 ws) (first_shorter a.stretches.items c.in-Some.stretch.now _ (omega (arith, a.stretches.ok.0)) (sym c.in-Some.ensures.value) c.next_work-stretch.ensures refl c.if-stretch-eq0.false)) ∙ (λ i. drop 1 (c.self.view_is i).works)
