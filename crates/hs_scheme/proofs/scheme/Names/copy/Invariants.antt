-- the parameters' names so far are copied, and there is room for the others
use Rattle.std.proofs.Common.{◌≡◌, ◌≤◌, length, map, take, vec_len, vec_capacity}
use Rattle.hs_scheme.proofs.scheme.Names.copy.Given as goal

abbrev pub invariant-loop-names : goal.invariant-loop-names
invariant-loop-names l = record {
  items : map (λ ns. ns.items) l.params.items ≡ map (λ ns. ns.items) (take l.names-index l.names-items);
  long : vec_len l.params ≡ l.names-index;
  room : length l.names-items ≤ vec_capacity l.params;
}
