-- the rows so far
use Rattle.std.proofs.Common.{◌≡◌, ◌≤◌, map, take, All}
use Rattle.std.specs.Vec.{vec_len, vec_capacity}
use Rattle.hs_types.specs.Interned.{IsRow, entry_of}
use Rattle.hs_app.proofs.counting.rows_of.Given as goal

abbrev pub invariant-loop-place : goal.invariant-loop-place
invariant-loop-place l = record {
  range : All (IsRow l.replica.ids) l.rows.items;
  entries : map (entry_of l.replica.ids) l.rows.items ≡ take l.place l.replica.log;
  len : vec_len l.rows ≡ l.place;
  room : l.place-end ≤ vec_capacity l.rows;
}
