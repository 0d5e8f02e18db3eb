-- a part is lower than what it is a part of; so far each type is asked, and so far no type is as strong
use Rattle.std.proofs.Common.{ℕ, ◌+◌, ◌*◌, take, Contains}
use Rattle.hs_scheme.specs.Tree.{forest, height, heights}
use Rattle.hs_weak.specs.Strength.{AsStrongAs, AsksFor}
use Rattle.hs_types.specs.Interned.{type_of_id, set_of_id}
use Rattle.hs_strength.specs.Remembered.{Remembers}
use Rattle.hs_strength.proofs.memo.Strengths.+strength.Given as goal

abbrev pub decreases-is_as_strong : goal.decreases-is_as_strong
decreases-is_as_strong l = (height (type_of_id l.types.now l.ty) + height (type_of_id l.types.now l.other)) * 5 + 4

abbrev pub decreases-compare : goal.decreases-compare
decreases-compare l = (height (type_of_id l.types.now l.ty) + height (type_of_id l.types.now l.other)) * 5 + 3

abbrev pub decreases-asks_each : goal.decreases-asks_each
decreases-asks_each l = (heights (forest (set_of_id l.types.now l.set)) + heights (forest (set_of_id l.types.now l.other))) * 5 + 2

abbrev pub decreases-compare_sets : goal.decreases-compare_sets
decreases-compare_sets l = (heights (forest (set_of_id l.types.now l.set)) + heights (forest (set_of_id l.types.now l.other))) * 5 + 1

abbrev pub decreases-asks : goal.decreases-asks
decreases-asks l = (heights (forest (set_of_id l.types.now l.set)) + height (type_of_id l.types.now l.ty)) * 5

abbrev pub invariant-compare_sets-loop-member : goal.invariant-compare_sets-loop-member
invariant-compare_sets-loop-member l = record {
  memo : Remembers l.types l.self;
  asked : (m : ℕ) → Contains (take l.member-index l.members) m → AsksFor AsStrongAs (set_of_id l.types l.fn.set) (type_of_id l.types m);
}

abbrev pub invariant-asks-loop-member : goal.invariant-asks-loop-member
invariant-asks-loop-member l = record {
  memo : Remembers l.types l.self;
  lacks : (m : ℕ) → Contains (take l.member-index l.members) m → AsStrongAs (type_of_id l.types m) (type_of_id l.types l.fn.ty) → ⊥;
}
