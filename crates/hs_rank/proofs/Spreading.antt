-- Places are spread over buckets by their points.
use Rattle.std.proofs.Common.{◌≡◌, refl, sym, ◌∙◌, ap, subst, ℕ, zero, suc, ◌+◌, ◌-◌, ◌/◌, ◌<◌, ◌≤◌, List, [], ◌∷◌, ◌++◌, length, set, get_or, take, slice_get, Some, arith, Contains, ◌⊎◌, inl, inr}
use Rattle.std.specs.List.{concat, range_with_len}
use Rattle.std.specs.List.Sorted.{IsPermutation}
use Rattle.std.proofs.Math.Nat.{le_trans, div-mul-le_self, le-min, min-le_left, min-le_right}
use Rattle.std.proofs.lemmas.Bool.{cases_lt}
use Rattle.std.proofs.lemmas.Nat.{le-div}
use Rattle.std.proofs.lemmas.List.{append_assoc, append-nil, length-set, take_more}
use Rattle.std.proofs.lemmas.List.Folds.{concat-append}
use Rattle.std.proofs.lemmas.List.Sorted.{IsPermutation-refl, IsPermutation-trans, IsPermutation-append_left, IsPermutation-append_right, IsPermutation-append_comm}
use Rattle.std.proofs.lemmas.Option.{same_Some, unwrap_or-slice_get}
use Rattle.hs_scheme.proofs.Lists.{none_in}
use Rattle.hs_table_laws.proofs.Members.{pushed_cases}
use Rattle.hs_flow.specs.Lists.{list_of}
use Rattle.hs_rules.specs.Conclusions.{DeducedData}
use Rattle.hs_rank.specs.declared.buckets.Spread.{Spread}
use Rattle.hs_rank.specs.Buckets.{bucket_of, AreApart}
use Rattle.hs_rank.proofs.Sorted.{range_more}

-- greater points come into no earlier bucket
quotient_up : (a b w : ℕ) → 0 < w → a ≤ b → a / w ≤ b / w
quotient_up a b w pos le = le-div (a / w) b w pos (le_trans (div-mul-le_self a w) le)

bucket_up : (s : Spread) (p q : ℕ) → 1 ≤ s.width → p ≤ q → bucket_of s p ≤ bucket_of s q
bucket_up s p q wide le =
    let x = (p - s.least) / s.width in
    let y = (q - s.least) / s.width in
    let up : x ≤ y = quotient_up (p - s.least) (q - s.least) s.width (omega (arith, wide)) (omega (arith, le)) in
    le-min (le_trans (min-le_left x (s.count - 1)) up) (min-le_right x (s.count - 1))

bucket_less : (s : Spread) (p q : ℕ) → 1 ≤ s.width → bucket_of s p < bucket_of s q → p < q
bucket_less s p q wide less = elim (cases_lt p q) [
  | inl lt ↦ lt
  | inr ge ↦ absurd (omega (arith, less, bucket_up s q p wide ge))
]

pub bucket_within : (s : Spread) (p : ℕ) → 1 ≤ s.count → bucket_of s p < s.count
bucket_within s p some = omega (arith, some, min-le_right ((p - s.least) / s.width) (s.count - 1))

-- lists that are joined
pub concat_none : (ls : List (List ℕ)) → ((k : ℕ) → list_of ls k ≡ []) → concat ls ≡ []
concat_none [] none = refl
concat_none (l ∷ ls) none = (λ i. none 0 i ++ concat ls) ∙ concat_none ls (λ k. none (suc k))

concat_pushed : (ls : List (List ℕ)) (n x : ℕ) → n < length ls → IsPermutation (concat ls ++ x ∷ []) (concat (set ls n (list_of ls n ++ x ∷ [])))
concat_pushed [] n x lt = absurd (omega (arith, lt))
concat_pushed (l ∷ ls) zero x lt =
    subst (λ (ys : List ℕ). IsPermutation ys ((l ++ x ∷ []) ++ concat ls)) (sym (append_assoc l (concat ls) (x ∷ [])))
    (subst (λ (ys : List ℕ). IsPermutation (l ++ (concat ls ++ x ∷ [])) ys) (sym (append_assoc l (x ∷ []) (concat ls)))
    (IsPermutation-append_right l (concat ls ++ x ∷ []) (x ∷ concat ls) (IsPermutation-append_comm (concat ls) (x ∷ []))))
concat_pushed (l ∷ ls) (suc n) x lt =
    let more = concat (set ls n (list_of ls n ++ x ∷ [])) in
    subst (λ (ys : List ℕ). IsPermutation ys (l ++ more)) (sym (append_assoc l (concat ls) (x ∷ []))) (IsPermutation-append_right l (concat ls ++ x ∷ []) more (concat_pushed ls n x (omega (arith, lt))))

set_cases : (ls : List (List ℕ)) (b : ℕ) (xs : List ℕ) (k i : ℕ) → Contains (list_of (set ls b xs) k) i → ((k ≡ b) × Contains xs i) ⊎ Contains (list_of ls k) i
set_cases [] b xs k i c = inr c
set_cases (l ∷ ls) zero xs zero i c = inl (refl, c)
set_cases (l ∷ ls) zero xs (suc k) i c = inr c
set_cases (l ∷ ls) (suc b) xs zero i c = inr c
set_cases (l ∷ ls) (suc b) xs (suc k) i c = elim (set_cases ls b xs k i c) [
  | inl (is, among) ↦ inl (ap suc is, among)
  | inr was ↦ inr was
]

pub concat_next : (ls : List (List ℕ)) (n : ℕ) → n < length ls → concat (take (n + 1) ls) ≡ concat (take n ls) ++ list_of ls n
concat_next ls n lt =
    ap concat (take_more ls n [] lt) ∙ (concat-append (take n ls) (get_or ls n [] ∷ []) ∙ ap (λ (xs : List ℕ). concat (take n ls) ++ xs) (append-nil (get_or ls n []) ∙ sym (unwrap_or-slice_get ls n [])))

-- the first places are in the buckets of their points
pub record AreSpread (s : Spread) (found : List DeducedData) (n : ℕ) (buckets : List (List ℕ)) : Type 0 where
  pub len : length buckets ≡ s.count
  pub all : IsPermutation (range_with_len 0 n) (concat buckets)
  pub each : (k i : ℕ) → Contains (list_of buckets k) i → (i < n) × ((d : DeducedData) → slice_get found i ≡ Some d → bucket_of s d.row.point ≡ k)

pub spread_none : (s : Spread) (found : List DeducedData) (buckets : List (List ℕ)) → length buckets ≡ s.count → ((k : ℕ) → list_of buckets k ≡ []) → AreSpread s found 0 buckets
spread_none s found buckets len none = record {
  len = len;
  all = subst (λ (xs : List ℕ). IsPermutation [] xs) (sym (concat_none buckets none)) (IsPermutation-refl []);
  each = λ k i c. absurd (none_in i (subst (λ (xs : List ℕ). Contains xs i) (none k) c));
}

module _ (s : Spread) (found : List DeducedData) (n : ℕ) (d : DeducedData) (at : slice_get found n ≡ Some d) (b : ℕ) (is : b ≡ bucket_of s d.row.point) (old new : List (List ℕ)) (pushed : new ≡ set old b (list_of old b ++ n ∷ []))
    (some : 1 ≤ s.count) (h : AreSpread s found n old) where
  within : b < length old
  within = omega (arith, is, bucket_within s d.row.point some, h.len)

  each_by : (k i : ℕ) → ((k ≡ b) × Contains (list_of old b ++ n ∷ []) i) ⊎ Contains (list_of old k) i → (i < n + 1) × ((e : DeducedData) → slice_get found i ≡ Some e → bucket_of s e.row.point ≡ k)
  each_by k i (inl (k_is, c)) = elim (pushed_cases (list_of old b) n i c) [
    | inl was ↦ let r = h.each b i was in (omega (arith, r.0), λ x there. r.1 x there ∙ sym k_is)
    | inr now ↦
        (omega (arith, now), λ x there. let same : x ≡ d = same_Some x d (sym there ∙ (ap (slice_get found) now ∙ at)) in ap (λ (y : DeducedData). bucket_of s y.row.point) same ∙ (sym is ∙ sym k_is))
  ]
  each_by k i (inr c) = let r = h.each k i c in (omega (arith, r.0), r.1)

  pub spread_more : AreSpread s found (n + 1) new
  spread_more =
      let more = list_of old b ++ n ∷ [] in
      record {
        len = ap (λ (ls : List (List ℕ)). length ls) pushed ∙ (length-set old b more ∙ h.len);
        all = subst (λ (ls : List (List ℕ)). IsPermutation (range_with_len 0 (n + 1)) (concat ls)) (sym pushed)
            (subst (λ (xs : List ℕ). IsPermutation xs (concat (set old b more))) (sym (range_more n))
            (IsPermutation-trans (range_with_len 0 n ++ n ∷ []) (concat old ++ n ∷ []) (concat (set old b more)) (IsPermutation-append_left (n ∷ []) (range_with_len 0 n) (concat old) h.all) (concat_pushed old b n within)));
        each = λ k i c. each_by k i (set_cases old b more k i (subst (λ (ls : List (List ℕ)). Contains (list_of ls k) i) pushed c));
      }

pub apart : (s : Spread) (found : List DeducedData) (buckets : List (List ℕ)) → 1 ≤ s.width → AreSpread s found (length found) buckets → AreApart found buckets
apart s found buckets wide h = record {
  within = λ k i c. (h.each k i c).0;
  less = λ k l i j d e lt here there at other. bucket_less s d.row.point e.row.point wide (omega (arith, lt, (h.each k i here).1 d at, (h.each l j there).1 e other));
}
