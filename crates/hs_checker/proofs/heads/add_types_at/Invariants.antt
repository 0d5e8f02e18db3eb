-- the rows so far have given their types
use Rattle.std.proofs.Common.{◌≡◌, ℕ, ◌⊎◌, ◌↔◌, take, Contains, Bor}
use Rattle.hs_types.specs.Interned.{RowData}
use Rattle.hs_checker.specs.Any.{AnyOf}
use Rattle.hs_checker.proofs.heads.add_types_at.Given as goal

abbrev pub invariant-loop-row : goal.invariant-loop-row
invariant-loop-row l = (t : ℕ) → Contains l.found.items t ↔ (Contains l.fn.found.items t ⊎ AnyOf (λ (r : Bor RowData) (t : ℕ). t ≡ r.now.ty) (take l.row-index l.row-items) t)
