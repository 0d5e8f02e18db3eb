-- Sets that got their numbers, and environments of few sets.
use Rattle.std.proofs.Common.{◌≡◌, refl, sym, ◌∙◌, ap, subst, All, ℕ, suc, ◌+◌, ◌-◌, ◌<◌, ◌≤◌, List, [], ◌∷◌, ◌++◌, length, take, drop, map, set, replicate, get_or, slice_get, Some, inl, inr, arith}
use Rattle.std.specs.List.{refill}
use Rattle.std.proofs.Math.Seq.{take-append_seam}
use Rattle.std.proofs.lemmas.List.{length-set, get_or_default}
use Rattle.std.proofs.lemmas.Option.{get_or_from_slice_get, slice_get-get_or, slice_get_within}
use Rattle.std.proofs.lemmas.List.Elements.{All-replicate, All-set}
use Rattle.std.specs.declared.cmp.Ordering.TheVariants.{Less}
use Rattle.std.proofs.lemmas.Bool.{cases_order}
use Rattle.hs_scheme.proofs.Lists.{uncons}
use Rattle.hs_table.specs.Types.{TypeTree, type_cmp, IsSet}
use Rattle.hs_table_laws.proofs.Orders.{type_cmp_total}
use Rattle.hs_table_laws.proofs.Places.{pairs_head, pairs_cons}
use Rattle.hs_table_laws.proofs.Sets.{no_set, one_set}
use Rattle.hs_types.specs.Interned.{InternerData, set_of_id, Grows, IsSetOf, IsUnion}
use Rattle.hs_types.proofs.ListLemmas.{map-replicate, map-set_at}

-- at most one type is in order
pub few_ascend : (f : ℕ → TypeTree) (ids : List ℕ) → length ids ≤ 1 → IsSet (map f ids)
few_ascend f [] h = no_set
few_ascend f (i ∷ []) h = one_set (f i)
few_ascend f (i ∷ j ∷ ids) h = absurd (omega arith)

-- of the first so many types each comes before the next one
abbrev pub AscendTo : (ℕ → TypeTree) → List ℕ → ℕ → Type 0
AscendTo f ids n = (j : ℕ) → j + 1 < n → type_cmp (f (get_or ids j 0)) (f (get_or ids (j + 1) 0)) ≡ Less

pub ascend_all : (f : ℕ → TypeTree) (ids : List ℕ) (n : ℕ) → length ids ≤ n → AscendTo f ids n → IsSet (map f ids)
ascend_all f [] n le h = no_set
ascend_all f (i ∷ []) n le h = one_set (f i)
ascend_all f (i ∷ j ∷ ids) n le h =
    let R : TypeTree → TypeTree → Type 0 = λ x y. type_cmp x y ≡ Less in
    let rest = ascend_all f (j ∷ ids) (length (j ∷ ids)) (omega arith) (λ k lt.
    let next : suc k + 1 ≡ suc (k + 1) = omega arith in
    subst (λ m. type_cmp (f (get_or (j ∷ ids) k 0)) (f (get_or (i ∷ j ∷ ids) m 0)) ≡ Less) next (h (suc k) (omega (arith, le, lt)))) in
    let first : type_cmp (f i) (f j) ≡ Less = h 0 (omega (arith, le)) in
    pairs_cons R (f i) (map f (j ∷ ids)) (λ b c. elim (uncons (f j) b (map f ids) c) [
      | inl is ↦ subst (λ z. type_cmp (f i) z ≡ Less) (sym is) first
      | inr there ↦ type_cmp_total.trans (f i) (f j) b first (pairs_head R (f j) b (map f ids) rest there)
    ]) rest

-- one more that comes behind the last
pub ascend_more : (f : ℕ → TypeTree) (ids : List ℕ) (n x y : ℕ) → AscendTo f ids n → 0 < n → n < length ids → x ≡ get_or ids (n - 1) x → y ≡ get_or ids n y → type_cmp (f x) (f y) ≡ Less → AscendTo f ids (n + 1)
ascend_more f ids n x y h some lt at_x at_y less j below = elim (cases_order (j + 1) n) [
  | inl same ↦
      let before : j ≡ n - 1 = omega (arith, same) in
      let x_is : get_or ids j 0 ≡ x = ap (λ k. get_or ids k 0) before ∙ read ids (n - 1) x (omega (arith, some, lt)) at_x in
      let y_is : get_or ids (j + 1) 0 ≡ y = ap (λ k. get_or ids k 0) same ∙ read ids n y lt at_y in
      (λ i. type_cmp (f (x_is i)) (f (y_is i))) ∙ less
  | inr other ↦ elim other [ inl within ↦ h j within | inr past ↦ absurd (omega (arith, past, below)) ]
]
  where
    read : (xs : List ℕ) (k v : ℕ) → k < length xs → v ≡ get_or xs k v → get_or xs k 0 ≡ v
    read xs k v h e = get_or_default xs k 0 v h ∙ sym e

pub set_itself : (s : List TypeTree) → IsSet s → IsSetOf s s
set_itself s h = record { ascends = h; exact = λ a. (λ k. k, λ k. k) }

pub numbered_set : (J : InternerData) (id : ℕ) (members s : List TypeTree) → slice_get J.sets id ≡ Some s → IsSetOf members s → (id < length J.sets) × IsSetOf members (set_of_id J id)
numbered_set J id members s at is = (slice_get_within J.sets id s at, subst (IsSetOf members) (sym (get_or_from_slice_get J.sets id s [] at)) is)

pub numbered_union : (J : InternerData) (id : ℕ) (s r u : List TypeTree) → slice_get J.sets id ≡ Some u → IsUnion s r u → (id < length J.sets) × IsUnion s r (set_of_id J id)
numbered_union J id s r u at is = (slice_get_within J.sets id u at, subst (IsUnion s r) (sym (get_or_from_slice_get J.sets id u [] at)) is)

pub empty_sets : (J : InternerData) (n e : ℕ) (items slice : List ℕ) → slice_get J.sets e ≡ Some [] → items ≡ replicate n e → slice ≡ items → map (set_of_id J) slice ≡ replicate n []
empty_sets J n e items slice at is is' =
    ap (λ (zs : List ℕ). map (set_of_id J) zs) (is' ∙ is) ∙ map-replicate (set_of_id J) n e ∙ ap (λ s. replicate n s) (get_or_from_slice_get J.sets e [] [] at)

pub single_set : (I J : InternerData) (n x s e : ℕ) (S : List TypeTree) (items slice : List ℕ) → Grows I J → slice_get I.sets s ≡ Some S → slice_get J.sets e ≡ Some [] → items ≡ replicate n e → slice ≡ set items x s
    → map (set_of_id J) slice ≡ set (replicate n []) x S
single_set I J n x s e S items slice g at none is is' =
    let own : set_of_id J s ≡ S = get_or_from_slice_get J.sets s S [] (g.sets s S at) in
    ap (λ (zs : List ℕ). map (set_of_id J) zs) (is' ∙ ap (λ (zs : List ℕ). set zs x s) is) ∙ map-set_at (set_of_id J) (replicate n e) x s
    ∙ (λ q. set ((map-replicate (set_of_id J) n e ∙ ap (λ (z : List TypeTree). replicate n z) (get_or_from_slice_get J.sets e [] [] none)) q) x (own q))

-- their numbers are in use
pub single_range : (I J : InternerData) (n x s e : ℕ) (S : List TypeTree) (items slice : List ℕ) → Grows I J → slice_get I.sets s ≡ Some S → slice_get J.sets e ≡ Some [] → items ≡ replicate n e → slice ≡ set items x s
    → All (λ k. k < length J.sets) slice
single_range I J n x s e S items slice g at none is is' =
    let P : ℕ → Type 0 = λ k. k < length J.sets in
    subst (λ (zs : List ℕ). All P zs) (sym (is' ∙ ap (λ (zs : List ℕ). set zs x s) is))
    (All-set P (replicate n e) x s (slice_get_within J.sets s S (g.sets s S at)) (All-replicate P n e (slice_get_within J.sets e [] none)))

pub empty_range : (J : InternerData) (n e : ℕ) (items slice : List ℕ) → slice_get J.sets e ≡ Some [] → items ≡ replicate n e → slice ≡ items → All (λ k. k < length J.sets) slice
empty_range J n e items slice none is is' =
    let P : ℕ → Type 0 = λ k. k < length J.sets in
    subst (λ (zs : List ℕ). All P zs) (sym (is' ∙ is)) (All-replicate P n e (slice_get_within J.sets e [] none))

-- what is written in place of a list as long
refilled : (xs ws : List ℕ) → length ws ≡ length xs → refill (length xs) xs ws ≡ ws
refilled xs ws long = ap (λ n. take n (ws ++ drop (length ws) xs)) (sym long) ∙ take-append_seam ws (drop (length ws) xs)

pub set_refilled : (xs ys : List ℕ) (x s : ℕ) → ys ≡ xs → refill (length xs) xs (set ys x s) ≡ set xs x s
set_refilled xs ys x s is = ap (λ (zs : List ℕ). refill (length xs) xs (set zs x s)) is ∙ refilled xs (set xs x s) (length-set xs x s)

-- the first sets of an environment that are looked at one by one
abbrev pub AreEmpty : (ℕ → List TypeTree) → List ℕ → ℕ → Type 0
AreEmpty f sets n = (k : ℕ) → k < n → f (get_or sets k 0) ≡ []

all_empty : (f : ℕ → List TypeTree) (sets : List ℕ) → AreEmpty f sets (length sets) → map f sets ≡ replicate (length sets) []
all_empty f [] h = refl
all_empty f (s ∷ sets) h = λ i. h 0 (omega arith) i ∷ all_empty f sets (λ k lt. h (suc k) (omega arith)) i

pub is_empty : (J : InternerData) (id n m : ℕ) (sets : List ℕ) → id < length J.envs → map (set_of_id J) sets ≡ get_or J.envs id [] → length sets ≡ n → length sets ≤ m → AreEmpty (set_of_id J) sets m
    → slice_get J.envs id ≡ Some (replicate n [])
is_empty J id n m sets lt is long whole h =
    slice_get-get_or J.envs id [] lt
    ∙ ap (λ e. Some e) (sym is ∙ (all_empty (set_of_id J) sets (λ k less. h k (omega arith)) ∙ ap (λ j. replicate j []) long))
