-- The order of lists of places.
use Rattle.std.proofs.Common.{◌≡◌, refl, sym, ◌∙◌, ap, subst, ℕ, ◌+◌, ◌<◌, ◌≤◌, List, [], ◌∷◌, ◌++◌, length, get_or, take, drop, min, zero, suc, false, true, not, arith, ◌⊎◌, inl, inr}
use Rattle.std.specs.Bool.{◌==◌}
use Rattle.std.specs.List.{insert}
use Rattle.std.specs.Ordering.{nat_cmp, is_gt, ordering_then, ordering_reverse, ordering_index}
use Rattle.std.specs.Cmp.{nat_cmp_is}
use Rattle.std.specs.declared.cmp.Ordering.{Ordering}
use Rattle.std.specs.declared.cmp.Ordering.TheVariants.{Less, Equal, Greater}
use Rattle.std.proofs.lemmas.Bool.{cases_order}
use Rattle.std.proofs.lemmas.Cmp.{nat_list_cmp_total, tied_itself, upto}
use Rattle.std.proofs.lemmas.List.{length-take, length-map, get_or-map, get_or-take}
use Rattle.hs_table_laws.proofs.Members.{taken_next}
use Rattle.std.proofs.lemmas.Map.Lookups.{exact_bytes}
use Rattle.hs_table.specs.declared.support.HeadBy.{HeadBy}
use Rattle.hs_table.specs.Follows.{head_premise}
use Rattle.hs_rules.specs.Order.{places_cmp, chosen_places, IsLess, IsNoGreater}
use Rattle.hs_rules.specs.Heads.{IsNoGreaterHead}
use Rattle.hs_rules.proofs.Lists.{map_insert}

by_less : (o : Ordering) → o ≡ Less → o ≡ Greater → ⊥
by_less Less e g = absurd (cc)
by_less Equal e g = absurd (cc)
by_less Greater e g = absurd (cc)

by_equal : (o : Ordering) → o ≡ Equal → o ≡ Greater → ⊥
by_equal Less e g = absurd (cc)
by_equal Equal e g = absurd (cc)
by_equal Greater e g = absurd (cc)

not_gt : (o : Ordering) → (o ≡ Greater → ⊥) → is_gt o ≡ false
not_gt Less h = refl
not_gt Equal h = refl
not_gt Greater h = absurd (h refl)

gt_not : (o : Ordering) → is_gt o ≡ false → o ≡ Greater → ⊥
gt_not o e g = let f : is_gt o ≡ true = ap is_gt g in absurd (cc)

pub less_no_greater : (xs ys : List ℕ) → IsLess xs ys → IsNoGreater xs ys
less_no_greater xs ys h = by_less (places_cmp xs ys) h

-- what isn't less has no greater one
pub not_less : (xs ys : List ℕ) (o : Ordering) → o ≡ places_cmp xs ys → true ≡ not (ordering_index o == 0) → IsNoGreater ys xs
not_less xs ys o is differ e = by o is differ
  where
    turned : places_cmp xs ys ≡ Less
    turned = nat_list_cmp_total.antisymm xs ys ∙ ap ordering_reverse e

    by : (p : Ordering) → p ≡ places_cmp xs ys → true ≡ not (ordering_index p == 0) → ⊥
    by Less i d = absurd (cc)
    by Equal i d = absurd (let f : Equal ≡ Less = i ∙ turned in cc)
    by Greater i d = absurd (let f : Greater ≡ Less = i ∙ turned in cc)

pub is_less : (xs ys : List ℕ) (o : Ordering) → o ≡ places_cmp xs ys → false ≡ not (ordering_index o == 0) → IsLess xs ys
is_less xs ys Less is same = sym is
is_less xs ys Equal is same = absurd (cc)
is_less xs ys Greater is same = absurd (cc)

pub no_greater_itself : (xs : List ℕ) → IsNoGreater xs xs
no_greater_itself xs = by_equal (places_cmp xs xs) (tied_itself nat_list_cmp_total xs)

pub no_greater_same : (xs ys : List ℕ) → xs ≡ ys → IsNoGreater xs ys
no_greater_same xs ys e = subst (λ (zs : List ℕ). IsNoGreater xs zs) e (no_greater_itself xs)

pub no_greater_then : (xs ys zs : List ℕ) → IsNoGreater xs ys → IsNoGreater ys zs → IsNoGreater xs zs
no_greater_then xs ys zs h k = gt_not (places_cmp xs zs) (upto nat_list_cmp_total xs ys zs (not_gt (places_cmp xs ys) h) (not_gt (places_cmp ys zs) k))

then_less : (a b : Ordering) → ordering_then a b ≡ Less → (a ≡ Less) ⊎ ((a ≡ Equal) × (b ≡ Less))
then_less Less b h = inl refl
then_less Equal b h = inr (refl, h)
then_less Greater b h = absurd (cc)

-- what decides comes before what is added
pub less_append : (xs ys us vs : List ℕ) → length xs ≡ length ys → IsLess xs ys → IsLess (xs ++ us) (ys ++ vs)
less_append [] [] us vs long h = absurd (cc)
less_append [] (y ∷ ys) us vs long h = absurd (omega (arith, long))
less_append (x ∷ xs) [] us vs long h = absurd (omega (arith, long))
less_append (x ∷ xs) (y ∷ ys) us vs long h = elim (then_less (nat_cmp x y) (places_cmp xs ys) h) [
  | inl first ↦ ap (λ o. ordering_then o (places_cmp (xs ++ us) (ys ++ vs))) first
  | inr (same, rest) ↦ (λ i. ordering_then (same i) (less_append xs ys us vs (omega (arith, long)) rest i))
]

nat_itself : (x : ℕ) → nat_cmp x x ≡ Equal
nat_itself x = sym (nat_cmp_is x x Equal (omega arith))

nat_less : (x y : ℕ) → x < y → nat_cmp x y ≡ Less
nat_less x y h = sym (nat_cmp_is x y Less (omega (arith, h)))

-- the last place decides
pub less_last : (xs : List ℕ) (a b : ℕ) → a < b → IsLess (xs ++ a ∷ []) (xs ++ b ∷ [])
less_last [] a b h = ap (λ o. ordering_then o Equal) (nat_less a b h)
less_last (x ∷ xs) a b h = λ i. ordering_then (nat_itself x i) (less_last xs a b h i)

-- behind the same places
pub behind_same : (zs xs ys : List ℕ) → places_cmp (zs ++ xs) (zs ++ ys) ≡ places_cmp xs ys
behind_same [] xs ys = refl
behind_same (z ∷ zs) xs ys = λ i. ordering_then (nat_itself z i) (behind_same zs xs ys i)

pub no_greater_behind : (zs xs ys : List ℕ) → IsNoGreater xs ys → IsNoGreater (zs ++ xs) (zs ++ ys)
no_greater_behind zs xs ys h e = h (sym (behind_same zs xs ys) ∙ e)

-- one more place, at one place of lists of one length
pub less_insert : (xs ys : List ℕ) (at k : ℕ) → length xs ≡ length ys → IsLess xs ys → IsLess (insert xs at k) (insert ys at k)
less_insert [] [] at k long h = absurd (cc)
less_insert [] (y ∷ ys) at k long h = absurd (omega (arith, long))
less_insert (x ∷ xs) [] at k long h = absurd (omega (arith, long))
less_insert (x ∷ xs) (y ∷ ys) zero k long h = λ i. ordering_then (nat_itself k i) (h i)
less_insert (x ∷ xs) (y ∷ ys) (suc at) k long h = elim (then_less (nat_cmp x y) (places_cmp xs ys) h) [
  | inl first ↦ ap (λ o. ordering_then o (places_cmp (insert xs at k) (insert ys at k))) first
  | inr (same, rest) ↦ (λ i. ordering_then (same i) (less_insert xs ys at k (omega (arith, long)) rest i))
]

-- a lesser one behind the same places decides
pub less_inserted : (xs ys : List ℕ) (at a b : ℕ) → take at xs ≡ take at ys → a < b → IsLess (insert xs at a) (insert ys at b)
less_inserted xs ys at a b same h =
    subst (λ (ps : List ℕ). IsLess (ps ++ a ∷ drop at xs) (take at ys ++ b ∷ drop at ys)) (sym same)
    (behind_same (take at ys) (a ∷ drop at xs) (b ∷ drop at ys) ∙ ap (λ o. ordering_then o (places_cmp (drop at xs) (drop at ys))) (nat_less a b h))

-- so do lesser places before it
pub less_before : (xs ys : List ℕ) (at a b : ℕ) → length xs ≡ length ys → IsLess (take at xs) (take at ys) → IsLess (insert xs at a) (insert ys at b)
less_before xs ys at a b long h = less_append (take at xs) (take at ys) (a ∷ drop at xs) (b ∷ drop at ys) (length-take at xs ∙ (ap (λ n. min at n) long ∙ sym (length-take at ys))) h

same_place : (x y : ℕ) → nat_cmp x y ≡ Equal → x ≡ y
same_place x y h = elim (cases_order x y) [
  | inl same ↦ same
  | inr (inl less) ↦ absurd (let f : Less ≡ Equal = sym (nat_less x y less) ∙ h in cc)
  | inr (inr more) ↦ absurd (let f : Greater ≡ Equal = nat_cmp_is x y Greater (omega (arith, more)) ∙ h in cc)
]

-- what comes before has lesser places at the beginning, or the same ones
pub less_taken : (at : ℕ) (xs ys : List ℕ) → length xs ≡ length ys → IsLess xs ys → IsLess (take at xs) (take at ys) ⊎ (take at xs ≡ take at ys)
less_taken zero xs ys long h = inr refl
less_taken (suc at) [] [] long h = inr refl
less_taken (suc at) [] (y ∷ ys) long h = absurd (omega (arith, long))
less_taken (suc at) (x ∷ xs) [] long h = absurd (omega (arith, long))
less_taken (suc at) (x ∷ xs) (y ∷ ys) long h = elim (then_less (nat_cmp x y) (places_cmp xs ys) h) [
  | inl first ↦ inl (ap (λ o. ordering_then o (places_cmp (take at xs) (take at ys))) first)
  | inr (same, rest) ↦ elim (less_taken at xs ys (omega (arith, long)) rest) [
    | inl less ↦ inl (λ i. ordering_then (same i) (less i))
    | inr is ↦ inr (λ i. same_place x y same i ∷ is i)
  ]
]

pub less_then : (xs ys zs : List ℕ) → IsLess xs ys → IsLess ys zs → IsLess xs zs
less_then xs ys zs h k = nat_list_cmp_total.trans xs ys zs h k

pub less_differ : (xs ys : List ℕ) → IsLess xs ys → xs ≡ ys → ⊥
less_differ xs ys h is = by_equal_less (places_cmp xs ys) h (subst (λ (zs : List ℕ). places_cmp xs zs ≡ Equal) is (tied_itself nat_list_cmp_total xs))
  where
    by_equal_less : (o : Ordering) → o ≡ Less → o ≡ Equal → ⊥
    by_equal_less Less e g = absurd (cc)
    by_equal_less Equal e g = absurd (cc)
    by_equal_less Greater e g = absurd (cc)

-- one more place, at one place of lists of one length
pub no_greater_insert : (xs ys : List ℕ) (at k : ℕ) → length xs ≡ length ys → IsNoGreater xs ys → IsNoGreater (insert xs at k) (insert ys at k)
no_greater_insert xs ys at k long h = by (places_cmp xs ys) refl
  where
    by : (o : Ordering) → places_cmp xs ys ≡ o → IsNoGreater (insert xs at k) (insert ys at k)
    by Less e = less_no_greater (insert xs at k) (insert ys at k) (less_insert xs ys at k long e)
    by Equal e = no_greater_same (insert xs at k) (insert ys at k) (ap (λ (zs : List ℕ). insert zs at k) (exact_bytes xs ys e))
    by Greater e = absurd (h e)

-- a lesser place before the same ones
pub no_greater_first : (x y : ℕ) (zs : List ℕ) → x ≤ y → IsNoGreater (x ∷ zs) (y ∷ zs)
no_greater_first x y zs h = elim (cases_order x y) [
  | inl same ↦ no_greater_same (x ∷ zs) (y ∷ zs) (ap (λ (k : ℕ). k ∷ zs) same)
  | inr (inl less) ↦ less_no_greater (x ∷ zs) (y ∷ zs) (ap (λ o. ordering_then o (places_cmp zs zs)) (nat_less x y less))
  | inr (inr more) ↦ absurd (omega (arith, h, more))
]

pub head_itself : (by : HeadBy) → IsNoGreaterHead by by
head_itself by places = no_greater_itself (head_premise by ++ places)

-- the places with one more argument
pub places_insert : (args : List (ℕ × ℕ)) (at arg place : ℕ) → chosen_places (insert args at (arg, place)) ≡ insert (chosen_places args) at place
places_insert args at arg place = map_insert (λ (a : ℕ × ℕ). a.1) args at (arg, place)

-- one more place at the end of the first ones
pub first_more : (args : List (ℕ × ℕ)) (k : ℕ) (d : ℕ × ℕ) → k < length args → take (k + 1) (chosen_places args) ≡ take k (chosen_places args) ++ (get_or args k d).1 ∷ []
first_more args k d lt =
    let p = (get_or args k d).1 in
    let many = length-map args (λ (a : ℕ × ℕ). a.1) in
    taken_next (chosen_places args) k p (omega (arith, many, lt)) (sym (get_or-map (λ (a : ℕ × ℕ). a.1) args k d p lt))

-- of the same first places each is the same
pub same_there : (one other : List (ℕ × ℕ)) (count k : ℕ) (d : ℕ × ℕ) → k < count → count ≤ length one → count ≤ length other → take count (chosen_places one) ≡ take count (chosen_places other) → (get_or one k d).1 ≡ (get_or other k d).1
same_there one other count k d lt in_one in_other same =
    sym (get_or-map (λ (a : ℕ × ℕ). a.1) one k d 0 (omega (arith, lt, in_one))) ∙ (sym (get_or-take count (chosen_places one) k 0 lt)
    ∙ (ap (λ (xs : List ℕ). get_or xs k 0) same ∙ (get_or-take count (chosen_places other) k 0 lt ∙ get_or-map (λ (a : ℕ × ℕ). a.1) other k d 0 (omega (arith, lt, in_other)))))
