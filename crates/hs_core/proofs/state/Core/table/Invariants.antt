-- the entries so far
use Rattle.std.proofs.Common.{◌≡◌, ◌≤◌, take}
use Rattle.std.specs.Vec.{vec_len, vec_capacity}
use Rattle.hs_core.specs.Core.{log_of}
use Rattle.hs_core.proofs.state.Core.table.Given as goal

abbrev pub invariant-loop-place : goal.invariant-loop-place
invariant-loop-place l = record {
  items : l.table.items ≡ take l.place (log_of l.self);
  len : vec_len l.table ≡ l.place;
  room : l.place-end ≤ vec_capacity l.table;
}
