-- the arguments so far are copied, and there is room for the others
use Rattle.std.proofs.Common.{◌≡◌, ◌≤◌, length, take, vec_len, vec_capacity}
use Rattle.hs_scheme.proofs.sort.Sort.+copy.Given as goal

abbrev pub invariant-loop-arg : goal.invariant-loop-arg
invariant-loop-arg l = record {
  items : l.args.items ≡ take l.arg-index l.arg-items;
  long : vec_len l.args ≡ l.arg-index;
  room : length l.arg-items ≤ vec_capacity l.args;
}
