-- One place for each entry, along places that are sorted by the entries there.
use Rattle.std.proofs.Common.{◌≡◌, ◌≢◌, refl, sym, ◌∙◌, ap, subst, ℕ, ◌+◌, ◌<◌, ◌≤◌, true, false, List, [], ◌∷◌, ◌++◌, length, map, get_or, slice_get, Some, option_map, arith, All, AllPairs, Contains, ◌⊎◌, inl, inr}
use Rattle.std.specs.List.{range_with_len}
use Rattle.std.specs.Option.{option_cmp}
use Rattle.std.specs.Ordering.{is_lt, ordering_reverse}
use Rattle.std.specs.declared.cmp.Ordering.{Ordering}
use Rattle.std.specs.declared.cmp.Ordering.TheVariants.{Less, Equal, Greater}
use Rattle.std.proofs.lemmas.Bool.{cases_lt, true≢false}
use Rattle.std.proofs.lemmas.Cmp.{tied_itself}
use Rattle.std.proofs.lemmas.List.{get_or-map, get_or_default, length-append, length-map, map-append}
use Rattle.std.proofs.lemmas.List.FromFn.{get_or-range_with_len, length-range_with_len}
use Rattle.std.proofs.lemmas.List.Elements.{Contains-append_left, Contains-get_or, Contains-push}
use Rattle.std.proofs.lemmas.List.Quantifiers.{all_pairs_push}
use Rattle.std.proofs.lemmas.List.Sorted.{sorted_far, IsPermutation-sym, Contains-permutation}
use Rattle.std.proofs.lemmas.Option.{slice_get-map}
use Rattle.hs_scheme.specs.flow.Flow.{IsAscending}
use Rattle.hs_scheme.proofs.Lists.{none_in, Contains-at}
use Rattle.hs_table.specs.Entries.{EntryData, entry_cmp}
use Rattle.hs_table.specs.Follows.{premises}
use Rattle.hs_table_laws.proofs.Members.{from_map, into_map, pushed_cases}
use Rattle.hs_table_laws.proofs.Orders.{entry_cmp_total, entry_same}
use Rattle.hs_types.specs.Interned.{InternerData, IsRow, entry_of, IsInterner}
use Rattle.hs_types.proofs.Numbers.{same_row}
use Rattle.hs_rules.specs.Order.{IsNoGreater}
use Rattle.hs_rules.specs.Conclusions.{DeducedData}
use Rattle.hs_rules.specs.Found.{Lowers}
use Rattle.hs_rules.proofs.OrderLemmas.{no_greater_itself, no_greater_then}
use Rattle.hs_rank.specs.Ordering.{entries_of, picked, is_less_at, AreInOrder, AreSorted}
use Rattle.hs_rank.proofs.Joined.{is_order}
use Rattle.hs_rank.proofs.Sorted.{all_of, images_twice, nth, nth_there, read_behind}

zero_more : (k : ℕ) → 0 + k ≡ k
zero_more k = omega arith

-- what is read at a place
pub nth_is : (found : List DeducedData) (k : ℕ) (d : DeducedData) → k < length found → d ≡ get_or found k d → nth found k ≡ d
nth_is found k d lt is = get_or_default found k _ d lt ∙ sym is

abbrev pub entry_at : InternerData → List DeducedData → ℕ → EntryData
entry_at ids found k = entry_of ids (nth found k).row

-- among the places is one of this entry with no greater support
pub record HasOne (found : List DeducedData) (places : List ℕ) (place : ℕ) : Type 0 where
  pub one : ℕ
  pub there : Contains places one
  pub row : (nth found one).row ≡ (nth found place).row
  pub least : IsNoGreater (premises (nth found one).support) (premises (nth found place).support)

-- of the first places one is left for each entry, the last of which may still be changed
pub record HasOneEach (ids : InternerData) (found : List DeducedData) (sorted : List ℕ) (n : ℕ) (kept : List ℕ) (last : ℕ) : Type 0 where
  pub within : (k : ℕ) → Contains (kept ++ last ∷ []) k → k < length found
  pub ascending : AllPairs (λ a b. entry_cmp a b ≡ Less) (map (entry_at ids found) kept ++ entry_at ids found last ∷ [])
  pub each : (k : ℕ) → k < n → HasOne found (kept ++ last ∷ []) (get_or sorted k 0)
  pub behind : (k : ℕ) → n ≤ k → k < length sorted → is_less_at ids found (get_or sorted k 0) last ≡ false

module _ (ids : InternerData) (found : List DeducedData) (sorted : List ℕ) (s : AreSorted ids found sorted) where
  pub place_within : (k : ℕ) → Contains sorted k → k < length found
  place_within k c =
      let r = Contains-permutation sorted (range_with_len 0 (length found)) k (IsPermutation-sym (range_with_len 0 (length found)) sorted s.permutation) c in
      omega (arith, r.1, length-range_with_len 0 (length found), sym (get_or-range_with_len 0 (length found) r.0 k (omega (arith, r.1, length-range_with_len 0 (length found)))) ∙ r.2)

  pub number_within : (n : ℕ) → n < length sorted → get_or sorted n 0 < length found
  number_within n lt = place_within (get_or sorted n 0) (Contains-get_or sorted n 0 lt)

  entry_there : (k : ℕ) → k < length found → slice_get (entries_of ids found) k ≡ Some (entry_at ids found k)
  entry_there k lt = slice_get-map (λ (d : DeducedData). entry_of ids d.row) found k ∙ ap (option_map (λ (d : DeducedData). entry_of ids d.row)) (nth_there found k lt)

  not_before : (i j : ℕ) → i ≤ j → j < length sorted → is_less_at ids found (get_or sorted j 0) (get_or sorted i 0) ≡ false
  not_before i j le lt = sorted_far (is_less_at ids found) (is_order ids found) sorted s.sorted i j 0 le lt

  pub each_begins : 0 < length sorted → HasOneEach ids found sorted 1 [] (get_or sorted 0 0)
  each_begins some =
      let last = get_or sorted 0 0 in
      record {
        within = λ k c. elim (pushed_cases [] last k c) [
          | inl none ↦ absurd (none_in k none)
          | inr is ↦ subst (λ j. j < length found) (sym is) (number_within 0 some)
        ];
        ascending = λ i j d lt below. absurd (omega (arith, lt, below));
        each = λ k lt.
            let is : 0 ≡ k = omega (arith, lt) in
            subst (λ j. HasOne found (last ∷ []) (get_or sorted j 0)) is (record { one = last; there = Contains-push [] last; row = refl; least = no_greater_itself (premises (nth found last).support) });
        behind = λ k le lt. not_before 0 k (omega arith) lt;
      }

  module _ (n : ℕ) (lt : n < length sorted) (kept : List ℕ) (last : ℕ) (h : HasOneEach ids found sorted n kept last) where
    abbrev q : ℕ
    q = get_or sorted n 0

    last_within : last < length found
    last_within = h.within last (Contains-push kept last)

    -- the next place is of the entry of the last one
    module _ (r : ℕ) (same : (nth found q).row ≡ (nth found last).row) (which : (r ≡ last) ⊎ (r ≡ q)) (least : IsNoGreater (premises (nth found r).support) (premises (nth found last).support))
        (other : IsNoGreater (premises (nth found r).support) (premises (nth found q).support)) where
      row_is : (nth found r).row ≡ (nth found last).row
      row_is = elim which [
        | inl is ↦ ap (λ k. (nth found k).row) is
        | inr is ↦ ap (λ k. (nth found k).row) is ∙ same
      ]

      r_within : r < length found
      r_within = elim which [
        | inl is ↦ subst (λ k. k < length found) (sym is) last_within
        | inr is ↦ subst (λ k. k < length found) (sym is) (number_within n lt)
      ]

      kept_one : (k : ℕ) → HasOne found (kept ++ last ∷ []) k → HasOne found (kept ++ r ∷ []) k
      kept_one k o = elim (pushed_cases kept last o.one o.there) [
        | inl was ↦ record { one = o.one; there = Contains-append_left kept (r ∷ []) o.one was; row = o.row; least = o.least }
        | inr is ↦ record {
          one = r;
          there = Contains-push kept r;
          row = row_is ∙ (sym (ap (λ j. (nth found j).row) is) ∙ o.row);
          least = no_greater_then (premises (nth found r).support) (premises (nth found last).support) (premises (nth found k).support) least
              (subst (λ j. IsNoGreater (premises (nth found j).support) (premises (nth found k).support)) is o.least);
        }
      ]

      pub each_same : HasOneEach ids found sorted (n + 1) kept r
      each_same = record {
        within = λ k c. elim (pushed_cases kept r k c) [
          | inl was ↦ h.within k (Contains-append_left kept (last ∷ []) k was)
          | inr is ↦ subst (λ j. j < length found) (sym is) r_within
        ];
        ascending = subst (λ (e : EntryData). AllPairs (λ a b. entry_cmp a b ≡ Less) (map (entry_at ids found) kept ++ e ∷ [])) (ap (entry_of ids) (sym row_is)) h.ascending;
        each = λ k below. elim (cases_lt k n) [
          | inl before ↦ kept_one (get_or sorted k 0) (h.each k before)
          | inr above ↦
              let is : n ≡ k = omega (arith, below, above) in
              subst (λ j. HasOne found (kept ++ r ∷ []) (get_or sorted j 0)) is (record { one = r; there = Contains-push kept r; row = row_is ∙ sym same; least = other })
        ];
        behind = λ k le below. elim which [
          | inl is ↦ subst (λ j. is_less_at ids found (get_or sorted k 0) j ≡ false) (sym is) (h.behind k (omega (arith, le)) below)
          | inr is ↦ subst (λ j. is_less_at ids found (get_or sorted k 0) j ≡ false) (sym is) (not_before n k (omega (arith, le)) below)
        ];
      }

    -- the next place is of a greater entry
    module _ (numbers : IsInterner ids) (known : All (λ d. IsRow ids d.row) found) (other : (nth found q).row ≡ (nth found last).row → ⊥) where
      row_known : (k : ℕ) → k < length found → IsRow ids (nth found k).row
      row_known k within = all_of (λ (d : DeducedData). IsRow ids d.row) found (nth found k) known (Contains-at found k (nth found k) (nth_there found k within))

      not_less : is_lt (entry_cmp (entry_at ids found q) (entry_at ids found last)) ≡ false
      not_less = ap is_lt (sym (λ i. option_cmp entry_cmp (entry_there q (number_within n lt) i) (entry_there last last_within i))) ∙ h.behind n (omega arith) lt

      less : entry_cmp (entry_at ids found last) (entry_at ids found q) ≡ Less
      less = by (entry_cmp (entry_at ids found q) (entry_at ids found last)) refl not_less
        where
          by : (o : Ordering) → entry_cmp (entry_at ids found q) (entry_at ids found last) ≡ o → is_lt o ≡ false → entry_cmp (entry_at ids found last) (entry_at ids found q) ≡ Less
          by Less e f = absurd (true≢false f)
          by Equal e f = absurd (other (same_row ids numbers (nth found q).row (nth found last).row (row_known q (number_within n lt)) (row_known last last_within) (entry_same (entry_at ids found q) (entry_at ids found last) e)))
          by Greater e f = entry_cmp_total.antisymm (entry_at ids found last) (entry_at ids found q) ∙ ap ordering_reverse e

      abbrev es : List EntryData
      es = map (entry_at ids found) kept

      all_less : (k : ℕ) (d : EntryData) → k < length (es ++ entry_at ids found last ∷ []) → entry_cmp (get_or (es ++ entry_at ids found last ∷ []) k d) (entry_at ids found q) ≡ Less
      all_less k d within =
          let el = entry_at ids found last in
          let long = length-append es (el ∷ []) in
          let end : get_or (es ++ el ∷ []) (length es) d ≡ el = read_behind es el d [] in
          elim (cases_lt k (length es)) [
            | inl below ↦
                entry_cmp_total.trans (get_or (es ++ el ∷ []) k d) el (entry_at ids found q)
                (subst (λ (e : EntryData). entry_cmp (get_or (es ++ el ∷ []) k d) e ≡ Less) end (h.ascending k (length es) d below (omega (arith, long)))) less
            | inr above ↦
                let is : length es ≡ k = omega (arith, above, within, long) in
                subst (λ (e : EntryData). entry_cmp e (entry_at ids found q) ≡ Less) (sym end ∙ ap (λ j. get_or (es ++ el ∷ []) j d) is) less
          ]

      pub each_new : HasOneEach ids found sorted (n + 1) (kept ++ last ∷ []) q
      each_new = record {
        within = λ k c. elim (pushed_cases (kept ++ last ∷ []) q k c) [
          | inl was ↦ h.within k was
          | inr is ↦ subst (λ j. j < length found) (sym is) (number_within n lt)
        ];
        ascending = subst (λ (xs : List EntryData). AllPairs (λ a b. entry_cmp a b ≡ Less) (xs ++ entry_at ids found q ∷ [])) (sym (map-append (entry_at ids found) kept (last ∷ [])))
            (all_pairs_push (λ a b. entry_cmp a b ≡ Less) (es ++ entry_at ids found last ∷ []) (entry_at ids found q) h.ascending all_less);
        each = λ k below. elim (cases_lt k n) [
          | inl before ↦ let o = h.each k before in record { one = o.one; there = Contains-append_left (kept ++ last ∷ []) (q ∷ []) o.one o.there; row = o.row; least = o.least }
          | inr above ↦
              let is : n ≡ k = omega (arith, below, above) in
              subst (λ j. HasOne found ((kept ++ last ∷ []) ++ q ∷ []) (get_or sorted j 0)) is
              (record { one = q; there = Contains-push (kept ++ last ∷ []) q; row = refl; least = no_greater_itself (premises (nth found q).support) })
        ];
        behind = λ k le below. not_before n k (omega (arith, le)) below;
      }

  -- where what was found stands among the sorted places
  sorted_place : (d : DeducedData) → Contains found d → (k : ℕ) × ((k < length sorted) × (nth found (get_or sorted k 0) ≡ d))
  sorted_place d (i, i_in, i_at) =
      let listed : Contains (range_with_len 0 (length found)) i = (i, omega (arith, i_in, length-range_with_len 0 (length found)), get_or-range_with_len 0 (length found) i i i_in ∙ zero_more i) in
      let at = Contains-permutation (range_with_len 0 (length found)) sorted i s.permutation listed in
      let is : get_or sorted at.0 0 ≡ i = get_or_default sorted at.0 0 i at.1 ∙ at.2 in
      (at.0, (at.1, ap (nth found) is ∙ (get_or_default found i _ d i_in ∙ i_at)))

  -- all places have passed
  module _ (n : ℕ) (end : length sorted ≤ n) (kept : List ℕ) (last : ℕ) (h : HasOneEach ids found sorted n kept last) (places : List ℕ) (is : places ≡ kept ++ last ∷ []) where
    abbrev f : ℕ → EntryData
    f k = entry_at ids found k

    mapped : map f places ≡ map f kept ++ f last ∷ []
    mapped = ap (map f) is ∙ map-append f kept (last ∷ [])

    rises : AllPairs (λ a b. entry_cmp a b ≡ Less) (map f places)
    rises = subst (λ (xs : List EntryData). AllPairs (λ a b. entry_cmp a b ≡ Less) xs) (sym mapped) h.ascending

    in_places : (k : ℕ) → Contains places k → k < length found
    in_places k c = h.within k (subst (λ xs. Contains xs k) is c)

    once : AllPairs (λ a b. a ≢ b) places
    once i j d lt below same =
        let long = length-map places f in
        let up = rises i j (f d) lt (omega (arith, below, long)) in
        let x = f (get_or places j d) in
        let one : get_or (map f places) i (f d) ≡ x = get_or-map f places i d (f d) (omega (arith, lt, below)) ∙ ap f same in
        let two : get_or (map f places) j (f d) ≡ x = get_or-map f places j d (f d) below in
        let itself : entry_cmp x x ≡ Less = (λ k. entry_cmp (sym one k) (sym two k)) ∙ up in
        let bad : Equal ≡ Less = sym (tied_itself entry_cmp_total x) ∙ itself in
        cc

    lowers : Lowers found (picked found places)
    lowers d c =
        let at = sorted_place d c in
        let o = h.each at.0 (omega (arith, at.1.0, end)) in
        record {
          item = nth found o.one;
          there = into_map (nth found) places o.one (subst (λ xs. Contains xs o.one) (sym is) o.there);
          is = o.row ∙ ap (λ (x : DeducedData). x.row) at.1.1;
          least = subst (λ (x : DeducedData). IsNoGreater (premises (nth found o.one).support) (premises x.support)) at.1.1 o.least;
        }

    pub in_order : AreInOrder ids found places
    in_order = record {
      within = λ k d lt. in_places (get_or places k d) (Contains-get_or places k d lt);
      once = once;
      ascending = subst (λ (xs : List EntryData). IsAscending entry_cmp xs) (sym (images_twice (nth found) (λ (d : DeducedData). entry_of ids d.row) places)) rises;
      only = λ d c.
          let m = from_map (nth found) places d c in
          subst (λ (x : DeducedData). Contains found x) (sym m.is) (Contains-at found m.item (nth found m.item) (nth_there found m.item (in_places m.item m.there)));
      lowers = lowers;
    }

  -- nothing was found
  pub none_in_order : length sorted ≡ 0 → (places : List ℕ) → places ≡ [] → AreInOrder ids found places
  none_in_order empty places none =
      subst (λ (ps : List ℕ). AreInOrder ids found ps) (sym none) (record {
        within = λ k d lt. absurd (omega (arith, lt));
        once = λ i j d lt below. absurd (omega (arith, below));
        ascending = λ i j d lt below. absurd (omega (arith, below));
        only = λ d c. absurd (none_in d c);
        lowers = λ d c. let at = sorted_place d c in absurd (omega (arith, at.1.0, empty));
      })
