use Rattle.std.proofs.Common.{◌≡◌, ◌+◌, false, cond, vec_len, sum}
use Rattle.hs_passes.specs.Narrowing.{count_true}
use Rattle.hs_passes.specs.Needing.{kept, KeepsOnlyLive, IsAbove}
use Rattle.hs_passes.proofs.needing.settled.Given as goal

abbrev pub invariant-loop-changed : goal.invariant-loop-changed
invariant-loop-changed l = record {
  long : vec_len l.settled ≡ sum l.parameters;
  above : IsAbove l.rules (kept l.parameters l.settled.items);
  supported : l.changed ≡ false → KeepsOnlyLive l.rules (kept l.parameters l.settled.items);
}

abbrev pub decreases-loop-changed : goal.decreases-loop-changed
decreases-loop-changed l = count_true l.settled.items + cond l.changed 1 0
