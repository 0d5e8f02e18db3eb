-- Buckets that are told from their last places back.
use Rattle.std.proofs.Common.{◌≡◌, refl, sym, ◌∙◌, ap, subst, ℕ, zero, suc, ◌+◌, ◌<◌, ◌≤◌, List, [], ◌∷◌, ◌++◌, cond, length, map, set, reverse, get_or, slice_get, Some, option_map, unwrap_or, arith, inl, inr, ◌⊎◌}
use Rattle.std.specs.Prelude.{nat_eq}
use Rattle.std.proofs.lemmas.Bool.{ne_eqb, eq-eqb, cases_lt}
use Rattle.std.proofs.lemmas.List.{append_assoc, append-nil, get_or_append_left, get_or-set_same, get_or-set_other, length-append, length-set, map-set, reverse-append}
use Rattle.std.proofs.lemmas.Option.{slice_get-map, slice_get-get_or}
use Rattle.hs_flow.specs.Lists.{list_of}
use Rattle.hs_rank.specs.Buckets.{chain, lists_in, IsLinked}
use Rattle.hs_rank.proofs.Sorted.{read_behind}

map_along : (f g : ℕ → List ℕ) (xs : List ℕ) → ((k : ℕ) → k < length xs → f (get_or xs k 0) ≡ g (get_or xs k 0)) → map f xs ≡ map g xs
map_along f g [] same = refl
map_along f g (x ∷ xs) same = λ i. same 0 (omega arith) i ∷ map_along f g xs (λ k lt. same (suc k) (omega (arith, lt))) i

module _ (before : List ℕ) where
  passes : (n last : ℕ) → last ≤ n → chain before (suc n) last ≡ chain before n last
  passes n last le = ap (λ t. cond t (chain before n (get_or before n 0) ++ n ∷ []) (chain before n last)) (ne_eqb last (suc n) (λ e. omega (arith, le, e)))

  -- only places up to the last one count
  pub chain_below : (n last : ℕ) → last ≤ n → chain before n last ≡ chain before last last
  chain_below zero last le = let e : 0 ≡ last = omega (arith, le) in λ i. chain before (e i) last
  chain_below (suc n) last le = elim (cases_lt n last) [
    | inl more ↦ let e : suc n ≡ last = omega (arith, le, more) in λ i. chain before (e i) last
    | inr few ↦ passes n last few ∙ chain_below n last few
  ]

  -- the last place stands at the end
  pub chain_at : (n : ℕ) → get_or before n 0 ≤ n → chain before (suc n) (suc n) ≡ chain before (get_or before n 0) (get_or before n 0) ++ n ∷ []
  chain_at n le =
      ap (λ t. cond t (chain before n (get_or before n 0) ++ n ∷ []) (chain before n (suc n))) (eq-eqb (suc n) (suc n) refl) ∙ ap (λ (xs : List ℕ). xs ++ n ∷ []) (chain_below n (get_or before n 0) le)

  pub chain_zero : chain before 0 0 ≡ []
  chain_zero = refl

  -- one place more changes none of the earlier ones
  pub chain_more : (x n last : ℕ) → n ≤ length before → chain (before ++ x ∷ []) n last ≡ chain before n last
  chain_more x zero last le = refl
  chain_more x (suc n) last le =
      let g : get_or (before ++ x ∷ []) n 0 ≡ get_or before n 0 = get_or_append_left before (x ∷ []) 0 n (omega (arith, le)) in
      let less : n ≤ length before = omega (arith, le) in
      λ i. cond (nat_eq last (suc n)) ((ap (chain (before ++ x ∷ []) n) g ∙ chain_more x n (get_or before n 0) less) i ++ n ∷ []) (chain_more x n last less i)

  pub list_at : (lasts : List ℕ) (k : ℕ) → k < length lasts → list_of (lists_in before lasts) k ≡ chain before (length before) (get_or lasts k 0)
  list_at lasts k lt = ap (λ o. unwrap_or o []) (slice_get-map (chain before (length before)) lasts k ∙ ap (option_map (chain before (length before))) (slice_get-get_or lasts k 0 lt))

  -- the walk begins at the last place
  pub list_from : (lasts : List ℕ) (k : ℕ) → IsLinked before lasts → k < length lasts → list_of (lists_in before lasts) k ≡ chain before (get_or lasts k 0) (get_or lasts k 0)
  list_from lasts k linked lt = list_at lasts k lt ∙ chain_below (length before) (get_or lasts k 0) (linked.within k)

  -- a step of the walk
  pub step_back : (whole places : List ℕ) (at a : ℕ) → at ≡ suc a → get_or before a 0 ≤ a → whole ≡ chain before at at ++ reverse places
      → whole ≡ chain before (get_or before a 0) (get_or before a 0) ++ reverse (places ++ a ∷ [])
  step_back whole places at a is le so_far =
      let b = get_or before a 0 in
      so_far
      ∙ ((λ i. chain before (is i) (is i) ++ reverse places)
      ∙ (ap (λ (xs : List ℕ). xs ++ reverse places) (chain_at a le) ∙ (append_assoc (chain before b b) (a ∷ []) (reverse places) ∙ ap (λ (xs : List ℕ). chain before b b ++ xs) (sym (reverse-append places (a ∷ []))))))

  -- the next place is added to a bucket
  module _ (lasts : List ℕ) (n : ℕ) (lt : n < length lasts) (linked : IsLinked before lasts) where
    abbrev x : ℕ
    x = get_or lasts n 0

    abbrev more : List ℕ
    more = before ++ x ∷ []

    abbrev next : ℕ
    next = length before + 1

    long : length more ≡ suc (length before)
    long = omega (arith, length-append before (x ∷ []))

    stays : (last : ℕ) → last ≤ length before → chain more (length more) last ≡ chain before (length before) last
    stays last le =
        (λ i. chain more (long i) last)
        ∙ (ap (λ t. cond t (chain more (length before) (get_or more (length before) 0) ++ length before ∷ []) (chain more (length before) last)) (ne_eqb last (suc (length before)) (λ e. omega (arith, le, e)))
        ∙ chain_more x (length before) last (omega arith))

    added : chain more (length more) next ≡ list_of (lists_in before lasts) n ++ length before ∷ []
    added =
        let e : next ≡ suc (length before) = omega arith in
        (λ i. chain more (long i) (e i))
        ∙ (ap (λ t. cond t (chain more (length before) (get_or more (length before) 0) ++ length before ∷ []) (chain more (length before) (suc (length before)))) (eq-eqb (suc (length before)) (suc (length before)) refl)
        ∙ ((λ i. chain more (length before) (read_behind before x 0 [] i) ++ length before ∷ [])
        ∙ ap (λ (xs : List ℕ). xs ++ length before ∷ []) (chain_more x (length before) x (omega arith) ∙ sym (list_at lasts n lt))))

    pub lists_added : lists_in more (set lasts n next) ≡ set (lists_in before lasts) n (list_of (lists_in before lasts) n ++ length before ∷ [])
    lists_added =
        map-set (chain more (length more)) lasts n next
        ∙ (λ i. set (map_along (chain more (length more)) (chain before (length before)) lasts (λ k h. stays (get_or lasts k 0) (linked.within k)) i) n (added i))

    earlier : (k : ℕ) → k < length more → (k < length before) ⊎ (k ≡ length before) → get_or more k 0 ≤ k
    earlier k h (inl below) = subst (λ m. m ≤ k) (sym (get_or_append_left before (x ∷ []) 0 k below)) (linked.earlier k below)
    earlier k h (inr is) = subst (λ m. m ≤ k) (sym (ap (λ j. get_or more j 0) is ∙ read_behind before x 0 [])) (omega (arith, is, linked.within n))

    within : (k : ℕ) → (k ≡ n) ⊎ (k ≡ n → ⊥) → get_or (set lasts n next) k 0 ≤ length more
    within k (inl is) = subst (λ m. m ≤ length more) (sym (ap (λ j. get_or (set lasts n next) j 0) is ∙ get_or-set_same lasts n next 0 lt)) (omega (arith, long))
    within k (inr other) = subst (λ m. m ≤ length more) (sym (get_or-set_other lasts n k next 0 other)) (omega (arith, long, linked.within k))

    pub linked_added : IsLinked more (set lasts n next)
    linked_added = record {
      earlier = λ k h. earlier k h (elim (cases_lt k (length before)) [
        | inl below ↦ inl below
        | inr above ↦ inr (omega (arith, above, h, long))
      ]);
      within = λ k. within k (elim (cases_lt k n) [
        | inl below ↦ inr (λ e. omega (arith, below, e))
        | inr above ↦ elim (cases_lt n k) [
          | inl more_than ↦ inr (λ e. omega (arith, more_than, e))
          | inr upto ↦ inl (omega (arith, above, upto))
        ]
      ]);
    }

-- empty buckets
pub none_linked : (before lasts : List ℕ) → before ≡ [] → ((k : ℕ) → get_or lasts k 0 ≡ 0) → IsLinked before lasts
none_linked before lasts none zeros = record { earlier = λ k lt. absurd (omega (arith, lt, ap (λ (xs : List ℕ). length xs) none)); within = λ k. omega (arith, zeros k) }

none_at : (lasts : List ℕ) (k : ℕ) → list_of (map (chain [] 0) lasts) k ≡ []
none_at [] zero = refl
none_at [] (suc k) = refl
none_at (x ∷ xs) zero = refl
none_at (x ∷ xs) (suc k) = none_at xs k

pub none_in_lists : (before lasts : List ℕ) → before ≡ [] → (k : ℕ) → list_of (lists_in before lasts) k ≡ []
none_in_lists before lasts none k = (λ i. list_of (lists_in (none i) lasts) k) ∙ none_at lasts k
