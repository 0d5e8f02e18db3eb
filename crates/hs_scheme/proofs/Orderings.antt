-- What the answer of an order says, of one order behind another, and of a sorted list without repeats.
use Rattle.std.proofs.Common.{◌≡◌, ◌≢◌, refl, ap, ℕ, Bool, true, false, List, get_or, arith, AllPairs}
use Rattle.std.specs.Cmp.{IsTotalOrder}
use Rattle.std.specs.Ordering.{nat_cmp, is_lt, is_eq, ordering_then, ordering_reverse}
use Rattle.std.specs.declared.cmp.Ordering.{Ordering}
use Rattle.std.specs.declared.cmp.Ordering.TheVariants.{Less, Equal, Greater}
use Rattle.std.specs.List.{IsDistinct}
use Rattle.std.specs.List.Sorted.{IsPermutation, IsSorted}
use Rattle.std.proofs.lemmas.Bool.Decides.{nat_tests}
use Rattle.std.proofs.lemmas.List.Sorted.{sorted_far, ranks_by}
use Rattle.std.proofs.lemmas.Map.Keys.{IsDistinct-from_apart, IsDistinct-IsPermutation, apart_from_distinct}
use Rattle.hs_scheme.specs.flow.Flow.{IsAscending}

pub equal_of : (o : Ordering) → is_eq o ≡ true → o ≡ Equal
equal_of Less e = absurd (cc)
equal_of Equal e = refl
equal_of Greater e = absurd (cc)

pub nat_equal : (x y : ℕ) → nat_cmp x y ≡ Equal → x ≡ y
nat_equal x y h = grind (arith, nat_tests)

pub then_equal : (a b : Ordering) → ordering_then a b ≡ Equal → (a ≡ Equal) × (b ≡ Equal)
then_equal Less b h = absurd (cc)
then_equal Equal b h = (refl, h)
then_equal Greater b h = absurd (cc)

-- a sorted list without repeats ascends
module _ {X : Type 0} (cmp : X → X → Ordering) (total : IsTotalOrder cmp) (equal : (a b : X) → cmp a b ≡ Equal → a ≡ b) where
  abbrev ties : X → X → Bool
  ties a b = is_eq (cmp a b)

  not_eq : (o : Ordering) → (o ≡ Equal → ⊥) → is_eq o ≡ false
  not_eq Less h = refl
  not_eq Equal h = absurd (h refl)
  not_eq Greater h = refl

  flip : (o p : Ordering) → o ≡ ordering_reverse p → is_eq o ≡ is_eq p
  flip o Less h = ap is_eq h
  flip o Equal h = ap is_eq h
  flip o Greater h = ap is_eq h

  below : (o p : Ordering) → o ≡ ordering_reverse p → is_eq o ≡ false → is_lt p ≡ false → o ≡ Less
  below o Less h e l = absurd (cc)
  below o Equal h e l = let f : is_eq o ≡ true = ap is_eq h in absurd (cc)
  below o Greater h e l = h

  pub ascends : (old new : List X) → AllPairs (λ a b. a ≢ b) old → IsPermutation old new → IsSorted cmp new → IsAscending cmp new
  ascends old new once moved sorted i j d less within =
      let apart : IsDistinct ties new = IsDistinct-IsPermutation ties (λ a b. flip (cmp a b) (cmp b a) (total.antisymm a b)) old new moved
      (IsDistinct-from_apart ties old (λ k l e lt w. not_eq (cmp (get_or old k e) (get_or old l e)) (λ h. once k l e lt w (equal (get_or old k e) (get_or old l e) h)))) in
      below (cmp (get_or new i d) (get_or new j d)) (cmp (get_or new j d) (get_or new i d)) (total.antisymm (get_or new i d) (get_or new j d))
      (apart_from_distinct ties new i j d apart less within) (sorted_far (λ a b. is_lt (cmp a b)) (ranks_by total (λ a. a)) new sorted i j d (omega arith) within)
