-- the lengths of the first transitions so far, and the least line of one of another length
use Rattle.std.proofs.Common.{◌≡◌, ℕ, List, take}
use Rattle.hs_resolve.specs.Numbering.{rank_of}
use Rattle.hs_resolve.specs.Lengths.{length_of}
use Rattle.hs_resolve.specs.Least.{IsLeast, Before}
use Rattle.hs_resolve.specs.LineFaults.{Clashes}
use Rattle.hs_resolve.proofs.transitions.note_lengths.Given as goal

abbrev pub invariant-loop-transition : goal.invariant-loop-transition
invariant-loop-transition l = record {
  lengths : (x : List ℕ) → length_of l.lengths x ≡ rank_of (take l.transition-index l.transitions) x;
  clash : IsLeast (Before (λ _ t line. Clashes l.transitions t line) l.transitions l.transition-index) l.clash;
}
