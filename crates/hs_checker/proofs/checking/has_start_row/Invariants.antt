-- none so far is the start entry
use Rattle.std.proofs.Common.{◌≡◌, [], take, Contains}
use Rattle.hs_table.specs.Types.{state}
use Rattle.hs_types.specs.Interned.{RowData, type_of_id, env_of_id}
use Rattle.hs_checker.proofs.checking.has_start_row.Given as goal

abbrev pub invariant-loop-row : goal.invariant-loop-row
invariant-loop-row l = (r : RowData) → Contains (take l.row-index l.rows) r → (r.point ≡ l.body) × ((env_of_id l.types r.env ≡ []) × (type_of_id l.types r.ty ≡ state 0)) → ⊥
