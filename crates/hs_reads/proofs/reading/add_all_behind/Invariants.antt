-- so far what stands behind the terminals that were taken is there, and nothing else
use Rattle.std.proofs.Common.{◌≡◌, ℕ, ◌+◌, List, take, slice_get, Some, Contains}
use Rattle.hs_scheme.specs.acceptance.Automaton.{next}
use Rattle.hs_reads.specs.Growing.{AddsOnly}
use Rattle.hs_reads.specs.Found.{Gains}
use Rattle.hs_reads.specs.Becomings.{AnyBecoming}
use Rattle.hs_reads.specs.Pairs.{IsReadBehind}
use Rattle.hs_reads.proofs.reading.add_all_behind.Given as goal

abbrev pub invariant-loop-becoming : goal.invariant-loop-becoming
invariant-loop-becoming l = record {
  gains : Gains l.initial.found l.found;
  there : (b : AnyBecoming) → Contains (take l.becoming-index l.terminals) b → (j u r : ℕ) (qs : List ℕ) → next l.sorted.automaton.transitions l.state b.terminal ≡ Some qs
      → slice_get l.args j ≡ Some u → slice_get qs (b.given + j) ≡ Some r → Contains l.found.pairs (u, r);
  only : AddsOnly (λ (x : ℕ × ℕ). (b : AnyBecoming) × (Contains l.terminals b × IsReadBehind l.sorted.automaton.transitions l.state b l.args x)) l.initial.found.pairs l.found.pairs;
}
