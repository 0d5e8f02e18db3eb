-- the rows so far
use Rattle.std.proofs.Common.{◌≡◌, ◌≤◌, length, map, take, Bor, vec_capacity}
use Rattle.hs_types.specs.Interned.{RowData}
use Rattle.hs_checker.proofs.index.references.Given as goal

abbrev pub invariant-loop-row : goal.invariant-loop-row
invariant-loop-row l = record {
  each : map (λ (r : Bor RowData). r.now) l.all.items ≡ take l.row-index l.rows;
  room : length l.rows ≤ vec_capacity l.all;
}
