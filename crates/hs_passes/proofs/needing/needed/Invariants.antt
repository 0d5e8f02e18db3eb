use Rattle.std.proofs.Common.{◌≡◌, take, vec_len, sum, ℕ}
use Rattle.hs_scheme.specs.sorting.Parameters.{IsParameter, parameter_of}
use Rattle.hs_passes.specs.Selection.{stays}
use Rattle.hs_passes.specs.Needing.{is_live, kept}
use Rattle.hs_passes.proofs.needing.needed.Given as goal

-- what the rules so far need is marked
abbrev pub invariant-loop-i : goal.invariant-loop-i
invariant-loop-i l = record {
  long : vec_len l.marks ≡ sum l.parameters;
  is : (f j : ℕ) → IsParameter l.parameters f j → stays l.marks.items (parameter_of l.parameters f j) ≡ is_live (kept l.parameters l.flags) (take l.i l.rules) f j;
}
