-- so far the arguments that were taken are there, and nothing else
use Rattle.std.proofs.Common.{◌≡◌, ℕ, ◌<◌, slice_get, Some, Contains}
use Rattle.hs_reads.specs.Growing.{AddsOnly}
use Rattle.hs_reads.specs.Found.{Gains}
use Rattle.hs_reads.specs.Pairs.{IsArgumentRead}
use Rattle.hs_reads.proofs.reading.add_children.Given as goal

abbrev pub invariant-loop-place : goal.invariant-loop-place
invariant-loop-place l = record {
  gains : Gains l.initial.found l.found;
  there : (i u r : ℕ) → i < l.place → slice_get l.args i ≡ Some u → slice_get l.states i ≡ Some r → Contains l.found.pairs (u, r);
  only : AddsOnly (IsArgumentRead l.args l.states) l.initial.found.pairs l.found.pairs;
}
