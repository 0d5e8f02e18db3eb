-- the states and terminals so far, and the least line of repeated ones
use Rattle.std.proofs.Common.{◌≡◌, ℕ, List, take, ◌&&◌, Bor}
use Rattle.std.specs.List.{list_any}
use Rattle.std.specs.Str.{bytes_eq}
use Rattle.indexmap.specs.IndexSet.{contains}
use Rattle.hs_resolve.specs.Lengths.{pair_eq}
use Rattle.hs_resolve.specs.Least.{IsLeast, Before}
use Rattle.hs_resolve.specs.LineFaults.{RepeatsLeft}
use Rattle.hs_resolve.proofs.transitions.repeated_in.Given as goal

abbrev pub invariant-loop-transition : goal.invariant-loop-transition
invariant-loop-transition l = record {
  met : (p : Bor (List ℕ) × Bor (List ℕ)) → contains pair_eq l.met p ≡ list_any (λ t. bytes_eq p.0.now t.from.text && bytes_eq p.1.now t.terminal.text) (take l.transition-index l.transitions);
  least : IsLeast (Before (RepeatsLeft l.transitions) l.transitions l.transition-index) l.least;
}
