-- the items so far are copied, and there is room for the others
use Rattle.std.proofs.Common.{◌≡◌, ◌≤◌, length, take, vec_len, vec_capacity}
use Rattle.hs_scheme.proofs.copying.copied.Given as goal

abbrev pub invariant-loop-item : goal.invariant-loop-item
invariant-loop-item g l = record {
  items : l.copies.items ≡ take l.item-index l.items;
  long : vec_len l.copies ≡ l.item-index;
  room : length l.items ≤ vec_capacity l.copies;
}
