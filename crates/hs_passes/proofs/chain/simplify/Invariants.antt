use Rattle.hs_passes.proofs.Chaining.{Chained}
use Rattle.hs_passes.proofs.chain.simplify.Given as goal

abbrev pub invariant-loop-pass : goal.invariant-loop-pass
invariant-loop-pass g l =
    Chained (λ p. (goal.Pass-dyn g (p.vtable, p.value)).image p.value) (λ p. (goal.Pass-dyn g (p.vtable, p.value)).taken p.value) l.fn.passes.items l.pass-items l.pass-index l.fn.sorted l.simplified
