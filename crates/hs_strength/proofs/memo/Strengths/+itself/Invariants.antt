-- a part is lower than what it is a part of; the types so far were seen
use Rattle.std.proofs.Common.{ℕ, ◌+◌, ◌*◌, take, Contains}
use Rattle.hs_scheme.specs.Tree.{forest, height, heights}
use Rattle.hs_weak.specs.Strength.{AsStrongAs}
use Rattle.hs_types.specs.Interned.{type_of_id, set_of_id}
use Rattle.hs_strength.specs.Remembered.{Remembers}
use Rattle.hs_strength.proofs.memo.Strengths.+itself.Given as goal

abbrev pub decreases-see_type : goal.decreases-see_type
decreases-see_type l = height (type_of_id l.types.now l.ty) * 2 + 1

abbrev pub decreases-see_set : goal.decreases-see_set
decreases-see_set l = heights (forest (set_of_id l.types.now l.set)) * 2

abbrev pub invariant-see_set-loop-member : goal.invariant-see_set-loop-member
invariant-see_set-loop-member l = record {
  memo : Remembers l.types l.self;
  seen : (m : ℕ) → Contains (take l.member-index l.members) m → AsStrongAs (type_of_id l.types m) (type_of_id l.types m);
}
