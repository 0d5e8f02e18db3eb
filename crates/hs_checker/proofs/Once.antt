-- Sorted lists from which repeats are dropped.
use Rattle.std.proofs.Common.{◌≡◌, refl, sym, ◌∙◌, ap, subst, ◌+◌, Bool, true, false, cond, get_or, map, List, [], ◌∷◌, arith, Contains, ◌↔◌}
use Rattle.std.specs.List.{dedup, dedup_from}
use Rattle.std.specs.Cmp.{IsTotalOrder}
use Rattle.std.specs.Ordering.{is_eq, is_lt, ordering_index, ordering_reverse}
use Rattle.std.specs.declared.cmp.Ordering.{Ordering}
use Rattle.std.specs.declared.cmp.Ordering.TheVariants.{Less, Equal, Greater}
use Rattle.std.specs.List.Sorted.{IsPermutation, IsSorted, IsStrictlySortedBy}
use Rattle.std.proofs.lemmas.Cmp.{eq_by_cmp_equiv}
use Rattle.std.proofs.lemmas.List.Kept.{Contains-dedup, Contains-from_dedup, IsStrictlySortedBy-dedup}
use Rattle.std.proofs.lemmas.List.Sorted.{IsPermutation-sym, Contains-permutation}
use Rattle.std.proofs.lemmas.Map.Keys.{sorted_tail}
use Rattle.std.proofs.lemmas.Map.Views.{All-after_first}
use Rattle.hs_scheme.specs.flow.Flow.{IsAscending}
use Rattle.hs_scheme.proofs.Orderings.{equal_of}
use Rattle.hs_table_laws.proofs.Places.{pairs_cons}

strict_ascends : {X : Type 0} (R : X → X → Ordering) (xs : List X) → IsStrictlySortedBy R xs → IsAscending R xs
strict_ascends R [] h = λ i j d low high. absurd (omega arith)
strict_ascends R (x ∷ xs) h = pairs_cons (λ a b. R a b ≡ Less) x xs (λ z c. subst (λ y. R x y ≡ Less) c.2 (All-after_first R x xs h c.0 z c.1)) (strict_ascends R xs (sorted_tail R x xs h))

module _ {X : Type 0} (R : X → X → Ordering) (total : IsTotalOrder R) (same : (a b : X) → R a b ≡ Equal → a ≡ b) where
  pub once_ascends : (mids news : List X) → IsSorted R mids → news ≡ dedup (λ a b. is_eq (R a b)) mids → IsAscending R news
  once_ascends mids news sorted made = subst (λ ns. IsAscending R ns) (sym made) (strict_ascends R (dedup (λ a b. is_eq (R a b)) mids) (IsStrictlySortedBy-dedup total (λ x y. refl) mids sorted))

  pub once_has : (olds mids news : List X) → IsPermutation olds mids → news ≡ dedup (λ a b. is_eq (R a b)) mids → (x : X) → Contains news x ↔ Contains olds x
  once_has olds mids news moved made x = (
    λ c. Contains-permutation mids olds x (IsPermutation-sym olds mids moved) (Contains-from_dedup (λ a b. is_eq (R a b)) mids x (subst (λ ns. Contains ns x) made c)),
    λ c. subst (λ ns. Contains ns x) (sym made) (Contains-dedup (eq_by_cmp_equiv total) (λ a b e. same a b (equal_of (R a b) e)) mids x (Contains-permutation olds mids x moved c)),
  )

pub index_tied : (o : Ordering) → ordering_index o ≡ 1 → o ≡ Equal
index_tied Less e = absurd (omega (arith, e))
index_tied Equal e = refl
index_tied Greater e = absurd (omega (arith, e))

-- what is kept once of a list is that of its image
module _ {X Y : Type 0} (f : X → Y) (E : Y → Y → Bool) where
  cond_map : (b : Bool) (xs ys : List X) → map f (cond b xs ys) ≡ cond b (map f xs) (map f ys)
  cond_map true xs ys = refl
  cond_map false xs ys = refl

  dedup_from-map : (k : X) (xs : List X) → map f (dedup_from (λ a b. E (f a) (f b)) k xs) ≡ dedup_from E (f k) (map f xs)
  dedup_from-map k [] = refl
  dedup_from-map k (x ∷ xs) =
      cond_map (E (f x) (f k)) (dedup_from (λ a b. E (f a) (f b)) k xs) (k ∷ dedup_from (λ a b. E (f a) (f b)) x xs)
      ∙ (λ i. cond (E (f x) (f k)) (dedup_from-map k xs i) (f k ∷ dedup_from-map x xs i))

  pub dedup-map : (xs : List X) → map f (dedup (λ a b. E (f a) (f b)) xs) ≡ dedup E (map f xs)
  dedup-map [] = refl
  dedup-map (x ∷ xs) = dedup_from-map x xs

-- what ascends is sorted
pub ascending_sorted : {X : Type 0} (R : X → X → Ordering) → IsTotalOrder R → (xs : List X) → IsAscending R xs → IsSorted R xs
ascending_sorted R total xs up k d low high =
    let a = get_or xs k d in
    let b = get_or xs (k + 1) d in
    ap is_lt (total.antisymm b a ∙ ap ordering_reverse (up k (k + 1) d (omega arith) high))
