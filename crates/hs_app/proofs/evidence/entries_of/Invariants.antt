-- the entries so far, and there is room for the others
use Rattle.std.proofs.Common.{◌≡◌, ◌≤◌, take, length, vec_len, vec_capacity}
use Rattle.hs_app.proofs.evidence.entries_of.Given as goal

abbrev pub invariant-loop-place : goal.invariant-loop-place
invariant-loop-place l = record {
  same : l.table.items ≡ take l.place l.certificate.table;
  long : vec_len l.table ≡ l.place;
  count : l.count ≡ length l.certificate.table;
  room : l.count ≤ vec_capacity l.table;
}
