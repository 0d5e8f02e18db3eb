-- the arrows so far are there
use Rattle.std.proofs.Common.{ℕ, take, Contains}
use Rattle.hs_types.specs.Interned.{type_of_id}
use Rattle.hs_minimal.specs.Strongest.{IsNoState, AddsTypes}
use Rattle.hs_minimal.proofs.asked.add_set.Given as goal

abbrev pub invariant-loop-member : goal.invariant-loop-member
invariant-loop-member l = record {
  adds : AddsTypes l.types l.fn.found.keys l.found.keys;
  own : (t : ℕ) → Contains (take l.member-index l.members) t → IsNoState (type_of_id l.types t) → Contains l.found.keys t;
}
