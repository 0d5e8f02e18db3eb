-- the entries so far
use Rattle.std.proofs.Common.{◌≡◌, ◌≤◌, length, take, vec_capacity}
use Rattle.hs_minimal.specs.Growing.{entries}
use Rattle.hs_minimal.proofs.compacting.added.Given as goal

abbrev pub invariant-loop-row : goal.invariant-loop-row
invariant-loop-row l = record {
  all : l.all.items ≡ entries l.types (take l.row-index l.growing.history);
  room : length l.growing.history ≤ vec_capacity l.all;
}
