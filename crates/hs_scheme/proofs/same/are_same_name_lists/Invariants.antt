-- the lists are equal so far
use Rattle.std.proofs.Common.{◌≡◌, take, map}
use Rattle.hs_scheme.proofs.same.are_same_name_lists.Given as goal

abbrev pub invariant-loop-place : goal.invariant-loop-place
invariant-loop-place l = take l.place (map (λ names. names.items) l.a) ≡ take l.place (map (λ names. names.items) l.b)
