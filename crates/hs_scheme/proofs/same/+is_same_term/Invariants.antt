-- the arguments are equal so far
use Rattle.std.proofs.Common.{◌≡◌, take}
use Rattle.hs_scheme.proofs.same.+is_same_term.Given as goal

abbrev pub invariant-loop-place : goal.invariant-loop-place
invariant-loop-place l = take l.place l.arg-items ≡ take l.place l.b-inside.args.items
