-- the types of those so far are there
use Rattle.std.proofs.Common.{take, Contains}
use Rattle.hs_types.specs.Interned.{RowData, type_of_id}
use Rattle.hs_minimal.specs.Strongest.{IsNoState, AddsTypes}
use Rattle.hs_minimal.proofs.asked.add_types.Given as goal

abbrev pub invariant-loop-row : goal.invariant-loop-row
invariant-loop-row l = record {
  adds : AddsTypes l.types l.fn.found.keys l.found.keys;
  own : (r : RowData) → Contains (take l.row-index l.rows) r → IsNoState (type_of_id l.types r.ty) → Contains l.found.keys r.ty;
}
