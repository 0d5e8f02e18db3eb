-- the pairs so far have given their types
use Rattle.std.proofs.Common.{ℕ, ◌↔◌, take, Contains}
use Rattle.hs_scheme.specs.declared.flow.FlowPair.{FlowPair}
use Rattle.hs_checker.specs.Any.{AnyOf}
use Rattle.hs_checker.specs.Order.{HasRowAt}
use Rattle.hs_checker.proofs.heads.parameter_types.Given as goal

abbrev pub invariant-loop-pair : goal.invariant-loop-pair
invariant-loop-pair l = (t : ℕ) → Contains l.found.items t ↔ AnyOf (λ (f : FlowPair) (t : ℕ). HasRowAt l.index f.point t) (take l.pair-index l.pair-items) t
