-- the rows so far are copied
use Rattle.std.proofs.Common.{◌≡◌, ◌≤◌, length, take, vec_capacity}
use Rattle.hs_void.proofs.basis.in_order.Given as goal

abbrev pub invariant-loop-row : goal.invariant-loop-row
invariant-loop-row l = record {
  rows : l.rows.items ≡ take l.row-index l.void;
  room : length l.void ≤ vec_capacity l.rows;
}
