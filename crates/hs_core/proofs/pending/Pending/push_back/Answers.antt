use Rattle.std.proofs.Common.{refl, sym, ap, ◌∙◌, ◌-◌, ◌∷◌, ◌++◌, [], arith}
use Rattle.std.specs.VecDeque.{deque_len}
use Rattle.hs_core.specs.Pending.{PendingData}
use Rattle.hs_core.proofs.Stretches.{last_longer, longer_length}
use Rattle.hs_core.proofs.pending.Pending.push_back.Goals as goal

pub invariant_of-self : goal.invariant_of-self
invariant_of-self c =
    let a = c.self.inside in
    let some = c.in-Some.ensures.variant.0 refl in (
      longer_length a.stretches.items (deque_len a.stretches - 1) c.in-Some.last.now _ (omega (arith, a.stretches.ok.0)) (sym c.in-Some.ensures.value) refl refl a.len c.self.invariant.0,
      omega (arith, c.self.invariant.1, c.requires, ap (λ (v : PendingData). v.room) c.self.view_is),
      omega (arith, c.self.invariant.2, c.requires, ap (λ (v : PendingData). v.room) c.self.view_is),
    )

pub returns-clause-works : goal.returns-clause-works
returns-clause-works c =
    let a = c.self.inside in
    let some = c.in-Some.ensures.variant.0 refl in
    last_longer a.stretches.items (deque_len a.stretches - 1) c.in-Some.last.now _ (omega (arith, a.stretches.ok.0)) (sym c.in-Some.ensures.value) refl refl
    ∙ (λ i. (c.self.view_is i).works ++ sym (c.if-ends_before.ensures.0 refl) i ∷ [])
