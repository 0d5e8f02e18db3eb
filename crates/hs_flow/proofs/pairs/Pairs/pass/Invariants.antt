-- the arguments so far are passed on, to the parameters from `given` on
use Rattle.std.proofs.Common.{◌≡◌, ◌+◌, ◌<◌, ◌≤◌, ◌⊎◌, ℕ, Some, Contains, length, slice_get}
use Rattle.hs_scheme.specs.declared.flow.Pair.{Pair}
use Rattle.hs_scheme.specs.declared.flow.Pair.TheVariants.{OfFlow}
use Rattle.hs_flow.specs.Passing.{PassedBy}
use Rattle.hs_flow.specs.Pairs.{FindsOnly}
use Rattle.hs_flow.proofs.PassLemmas.{IsEarlier}
use Rattle.hs_flow.proofs.pairs.Pairs.pass.Given as goal

abbrev pub invariant-loop-arg : goal.invariant-loop-arg
invariant-loop-arg l = record {
  param : l.param ≡ l.given + l.arg-index;
  finds : FindsOnly (PassedBy l.initial.self.rules l.base l.given l.point) l.initial.self l.self;
  so_far : (i a : ℕ) → i < l.arg-index → slice_get l.args i ≡ Some a → Contains l.self.found (OfFlow (record { rule = l.base; param = l.given + i; point = a }));
  behind : (q : Pair) → Contains l.self.found q → Contains l.initial.self.found q ⊎ IsEarlier l.param q;
  few : length l.self.found ≤ l.self.max;
}
