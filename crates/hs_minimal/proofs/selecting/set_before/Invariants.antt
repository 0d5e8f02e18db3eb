-- what is left is a type
use Rattle.std.proofs.Common.{◌<◌, length}
use Rattle.hs_minimal.proofs.selecting.set_before.Given as goal

abbrev pub invariant-loop : goal.invariant-loop
invariant-loop l = l.rest < length l.types.types
