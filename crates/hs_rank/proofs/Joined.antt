-- Buckets whose places are sorted, one behind the other.
use Rattle.std.proofs.Common.{◌≡◌, refl, sym, ◌∙◌, ap, subst, ℕ, ◌+◌, ◌<◌, false, List, [], ◌++◌, length, take, slice_get, Some, option_map, arith, AllPairs, Contains, inl, inr}
use Rattle.std.specs.Cmp.{IsStrictWeakOrder, nat_cmp_is}
use Rattle.std.specs.Cmp.Lexicographic.{options_total}
use Rattle.std.specs.List.{concat}
use Rattle.std.specs.List.Sorted.{IsPermutation, IsSortedBy}
use Rattle.std.specs.Option.{option_cmp}
use Rattle.std.specs.Ordering.{is_lt}
use Rattle.std.specs.declared.cmp.Ordering.TheVariants.{Equal, Greater}
use Rattle.std.proofs.lemmas.List.Elements.{Contains-append_cases}
use Rattle.std.proofs.lemmas.List.Sorted.{sorted_far, ranks_by, Contains-permutation, IsPermutation-sym, IsPermutation-refl, IsPermutation-append}
use Rattle.std.proofs.lemmas.Option.{slice_get-map}
use Rattle.hs_scheme.proofs.Lists.{none_in, pairs_append}
use Rattle.hs_table.specs.Entries.{EntryData, entry_cmp}
use Rattle.hs_table.proofs.OrderLemmas.{cmp_by_point}
use Rattle.hs_table_laws.proofs.Orders.{entry_cmp_total}
use Rattle.hs_types.specs.Interned.{InternerData, entry_of}
use Rattle.hs_flow.specs.Lists.{list_of}
use Rattle.hs_rules.specs.Conclusions.{DeducedData}
use Rattle.hs_rank.specs.Buckets.{AreApart}
use Rattle.hs_rank.specs.Ordering.{entries_of, is_less_at, HasSorted}
use Rattle.hs_rank.proofs.Sorted.{nth, nth_there}
use Rattle.hs_rank.proofs.Spreading.{concat_next}

-- it is an order, whatever stands there
pub is_order : (ids : InternerData) (found : List DeducedData) → IsStrictWeakOrder (is_less_at ids found)
is_order ids found = ranks_by (options_total entry_cmp_total) (λ (k : ℕ). slice_get (entries_of ids found) k)

greater : (a b : EntryData) → a.point < b.point → entry_cmp b a ≡ Greater
greater a b less = sym (cmp_by_point Greater Equal Equal b a (nat_cmp_is b.point a.point Greater less) refl)

-- the places of the first buckets, in order
pub record AreJoined (ids : InternerData) (found : List DeducedData) (buckets : List (List ℕ)) (n : ℕ) (places : List ℕ) : Type 0 where
  pub permutation : IsPermutation (concat (take n buckets)) places
  pub sorted : AllPairs (λ i j. is_less_at ids found j i ≡ false) places
  pub front : (i : ℕ) → Contains places i → (k : ℕ) × ((k < n) × Contains (list_of buckets k) i)

pub joined_none : (ids : InternerData) (found : List DeducedData) (buckets : List (List ℕ)) (places : List ℕ) → places ≡ [] → AreJoined ids found buckets 0 places
joined_none ids found buckets places none =
    subst (λ (ps : List ℕ). AreJoined ids found buckets 0 ps) (sym none) (record {
      permutation = IsPermutation-refl [];
      sorted = λ i j d less within. absurd (omega (arith, within));
      front = λ i c. absurd (none_in i c);
    })

module _ (ids : InternerData) (found : List DeducedData) (buckets : List (List ℕ)) (a : AreApart found buckets) (n : ℕ) (lt : n < length buckets) (old new : List ℕ) (h : AreJoined ids found buckets n old)
    (s : HasSorted ids found (list_of buckets n) old new) where
  entry : (i : ℕ) → i < length found → slice_get (entries_of ids found) i ≡ Some (entry_of ids (nth found i).row)
  entry i within = slice_get-map (λ (d : DeducedData). entry_of ids d.row) found i ∙ ap (option_map (λ (d : DeducedData). entry_of ids d.row)) (nth_there found i within)

  in_bucket : (j : ℕ) → Contains s.added j → Contains (list_of buckets n) j
  in_bucket j c = Contains-permutation s.added (list_of buckets n) j (IsPermutation-sym (list_of buckets n) s.added s.permutation) c

  across : (i j : ℕ) → Contains old i → Contains s.added j → is_less_at ids found j i ≡ false
  across i j c d =
      let was = h.front i c in
      let here = in_bucket j d in
      let i_in = a.within was.0 i was.1.1 in
      let j_in = a.within n j here in
      let less = a.less was.0 n i j (nth found i) (nth found j) was.1.0 was.1.1 here (nth_there found i i_in) (nth_there found j j_in) in
      ap is_lt ((λ k. option_cmp entry_cmp (entry j j_in k) (entry i i_in k)) ∙ greater (entry_of ids (nth found i).row) (entry_of ids (nth found j).row) less)

  pub joined_more : AreJoined ids found buckets (n + 1) new
  joined_more = record {
    permutation = subst (λ (ys : List ℕ). IsPermutation (concat (take (n + 1) buckets)) ys) (sym s.is)
        (subst (λ (xs : List ℕ). IsPermutation xs (old ++ s.added)) (sym (concat_next buckets n lt)) (IsPermutation-append (concat (take n buckets)) old (list_of buckets n) s.added h.permutation s.permutation));
    sorted = subst (λ (ys : List ℕ). AllPairs (λ i j. is_less_at ids found j i ≡ false) ys) (sym s.is)
        (pairs_append (λ i j. is_less_at ids found j i ≡ false) old s.added h.sorted (λ i j d less within. sorted_far (is_less_at ids found) (is_order ids found) s.added s.sorted i j d (omega (arith, less)) within) across);
    front = λ i c. elim (Contains-append_cases old s.added i (subst (λ (ys : List ℕ). Contains ys i) s.is c)) [
      | inl was ↦ let r = h.front i was in (r.0, (omega (arith, r.1.0), r.1.1))
      | inr now ↦ (n, (omega arith, in_bucket i now))
    ];
  }

pub sorted_joined : (ids : InternerData) (found : List DeducedData) (places : List ℕ) → AllPairs (λ i j. is_less_at ids found j i ≡ false) places → IsSortedBy (is_less_at ids found) places
sorted_joined ids found places sorted k d low within = sorted k (k + 1) d (omega arith) within
