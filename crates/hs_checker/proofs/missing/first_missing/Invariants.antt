-- those so far are there
use Rattle.std.proofs.Common.{ℕ, take, Contains}
use Rattle.hs_checker.proofs.missing.first_missing.Given as goal

abbrev pub invariant-loop-env : goal.invariant-loop-env
invariant-loop-env l = (k : ℕ) → Contains (take l.env-index l.env-items) k → Contains l.index (record { point = l.point; env = k; ty = l.found.ty })
