-- so far each is as strong as none but itself
use Rattle.std.proofs.Common.{◌≡◌, ℕ, take, Contains}
use Rattle.hs_weak.specs.Strength.{AsStrongAs}
use Rattle.hs_types.specs.Interned.{type_of_id}
use Rattle.hs_strength.specs.Remembered.{Remembers}
use Rattle.hs_minimal.proofs.matching.has_stronger.Given as goal

abbrev pub invariant-loop-ty : goal.invariant-loop-ty
invariant-loop-ty l = record {
  memo : Remembers l.types l.strengths;
  only : (s : ℕ) → Contains (take l.ty-index l.given) s → (t : ℕ) → Contains l.asked t → AsStrongAs (type_of_id l.types s) (type_of_id l.types t) → s ≡ t;
}
