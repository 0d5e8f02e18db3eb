-- nothing has changed
use Rattle.std.proofs.Common.{◌≡◌}
use Rattle.hs_minimal.proofs.choosing.may_choose.Given as goal

abbrev pub invariant-loop-place : goal.invariant-loop-place
invariant-loop-place l = l.types ≡ l.fn.types
