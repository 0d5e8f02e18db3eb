-- so far each is the point of a row
use Rattle.std.proofs.Common.{◌≡◌, ℕ, Contains}
use Rattle.hs_types.specs.Interned.{RowData}
use Rattle.hs_minimal.proofs.spreading.points_of.Given as goal

abbrev pub invariant-loop-row : goal.invariant-loop-row
invariant-loop-row l = (u : ℕ) → Contains l.points.items u → (r : RowData) × (Contains l.rows r × (r.point ≡ u))
