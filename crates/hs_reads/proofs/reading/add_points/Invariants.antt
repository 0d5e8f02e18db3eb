-- so far the pairs that were taken are there, and nothing else
use Rattle.std.proofs.Common.{◌≡◌, ℕ, take, Contains}
use Rattle.hs_scheme.specs.declared.flow.FlowPair.{FlowPair}
use Rattle.hs_reads.specs.Growing.{AddsOnly}
use Rattle.hs_reads.specs.Found.{Gains}
use Rattle.hs_reads.proofs.reading.add_points.Given as goal

abbrev pub invariant-loop-pair : goal.invariant-loop-pair
invariant-loop-pair l = record {
  gains : Gains l.initial.found l.found;
  there : (f : FlowPair) → Contains (take l.pair-index l.row) f → Contains l.found.pairs (f.point, l.state);
  only : AddsOnly (λ (x : ℕ × ℕ). (f : FlowPair) × (Contains l.row f × (x ≡ (f.point, l.state)))) l.initial.found.pairs l.found.pairs;
}
