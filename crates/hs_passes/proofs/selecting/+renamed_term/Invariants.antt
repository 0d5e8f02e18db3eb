-- the arguments so far have their new numbers
use Rattle.std.proofs.Common.{◌≡◌, ◌≤◌, length, map, take, vec_len, vec_capacity}
use Rattle.hs_passes.specs.Selection.{renamed, number_in}
use Rattle.hs_passes.proofs.selecting.+renamed_term.Given as goal

abbrev pub invariant-loop-arg : goal.invariant-loop-arg
invariant-loop-arg l = record {
  items : l.args.items ≡ map (renamed (number_in l.numbers)) (take l.arg-index l.arg-items);
  long : vec_len l.args ≡ l.arg-index;
  room : length l.arg-items ≤ vec_capacity l.args;
}
