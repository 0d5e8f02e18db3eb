-- so far it is as strong as none but itself
use Rattle.std.proofs.Common.{◌≡◌, ℕ, take, Contains}
use Rattle.hs_weak.specs.Strength.{AsStrongAs}
use Rattle.hs_types.specs.Interned.{type_of_id}
use Rattle.hs_strength.specs.Remembered.{Remembers}
use Rattle.hs_minimal.proofs.matching.is_stronger.Given as goal

abbrev pub invariant-loop-other : goal.invariant-loop-other
invariant-loop-other l = record {
  memo : Remembers l.types l.strengths;
  only : (t : ℕ) → Contains (take l.other-index l.others) t → AsStrongAs (type_of_id l.types l.ty) (type_of_id l.types t) → l.ty ≡ t;
}
