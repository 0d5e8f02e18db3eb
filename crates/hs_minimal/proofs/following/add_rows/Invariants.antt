-- one for each of the environments so far
use Rattle.std.proofs.Common.{◌≡◌, ◌++◌, map, take}
use Rattle.hs_minimal.specs.Following.{row_with}
use Rattle.hs_minimal.proofs.following.add_rows.Given as goal

abbrev pub invariant-loop-env : goal.invariant-loop-env
invariant-loop-env l = l.found.items ≡ l.fn.found.items ++ map (row_with l.point l.ty) (take l.env-index l.envs)
