-- what those so far ask for is there
use Rattle.std.proofs.Common.{take, Contains}
use Rattle.hs_table.specs.Types.{arrows}
use Rattle.hs_types.specs.Interned.{RowData, type_of_id, env_of_id}
use Rattle.hs_minimal.specs.Strongest.{AddsTypes, HaveArrows, HasAskedFor}
use Rattle.hs_minimal.proofs.asked.add_asked.Given as goal

abbrev pub invariant-loop-row : goal.invariant-loop-row
invariant-loop-row l = record {
  adds : AddsTypes l.types l.fn.found.keys l.found.keys;
  own : (r : RowData) → Contains (take l.row-index l.rows) r → HasAskedFor l.types l.found.keys (arrows (env_of_id l.types r.env) (type_of_id l.types r.ty));
  seen : HaveArrows l.types l.found.keys l.seen.keys;
}
