-- the pairs so far, and there is room for the others
use Rattle.std.proofs.Common.{◌≡◌, ◌≤◌, take, length, vec_len, vec_capacity}
use Rattle.hs_app.proofs.evidence.pairs_of.Given as goal

abbrev pub invariant-loop-place : goal.invariant-loop-place
invariant-loop-place l = record {
  same : l.void.items ≡ take l.place l.fn.certificate.void;
  long : vec_len l.void ≡ l.place;
  count : l.count ≡ length l.fn.certificate.void;
  room : l.count ≤ vec_capacity l.void;
  table : l.certificate.table ≡ l.fn.certificate.table;
  pairs : l.certificate.void ≡ l.fn.certificate.void;
}
