-- so far none is as strong
use Rattle.std.proofs.Common.{◌≡◌, take, Contains}
use Rattle.hs_weak.specs.Strength.{AsStrongAs}
use Rattle.hs_types.specs.Interned.{RowData, type_of_id}
use Rattle.hs_minimal.proofs.choosing.has_strong.Given as goal

abbrev pub invariant-loop-row : goal.invariant-loop-row
invariant-loop-row l = record {
  same : l.types ≡ l.fn.types;
  none : (r : RowData) → Contains (take l.row-index l.rows) r → AsStrongAs (type_of_id l.fn.types r.ty) (type_of_id l.fn.types l.ty) → ⊥;
}
