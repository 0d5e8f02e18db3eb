-- Where the items of a point begin in a list by points, and what stands between two starts.
use Rattle.std.proofs.Common.{◌≡◌, sym, ◌∙◌, ap, subst, ℕ, ◌+◌, ◌-◌, ◌<◌, ◌≤◌, List, [], ◌∷◌, ◌++◌, length, take, drop, get_or, arith, inl, inr, Contains, ◌↔◌}
use Rattle.std.specs.declared.cmp.Ordering.{Ordering}
use Rattle.std.specs.declared.cmp.Ordering.TheVariants.{Less}
use Rattle.std.proofs.Math.Nat.{eq-or-lt_of_le}
use Rattle.std.proofs.Math.ListN.{get_or-append}
use Rattle.std.proofs.Math.Seq.{get_or-append_seam}
use Rattle.std.proofs.lemmas.Bool.{cases_lt}
use Rattle.std.proofs.lemmas.Bool.Decides.{nat_tests}
use Rattle.std.proofs.lemmas.List.{get_or-take, get_or-drop, length-drop, length-take, length-append, get_or_default}
use Rattle.hs_scheme.specs.declared.flow.HeadPair.{HeadPair}
use Rattle.hs_scheme.specs.flow.Flow.{IsAscending, head_cmp}
use Rattle.hs_flow_checker.specs.Starts.{IsStartBy, AreStartsBy, IsEmptyAt}

module _ {X : Type 0} (at : X → ℕ) where
  -- a start for one point more
  pub starts_more : (xs : List X) (olds news : List ℕ) (t n : ℕ) → news ≡ olds ++ n ∷ [] → length olds ≡ t → IsStartBy at xs t n → ((p d : ℕ) → p < length olds → IsStartBy at xs p (get_or olds p d)) → (p d : ℕ) → p < length news → IsStartBy at xs p (get_or news p d)
  starts_more xs olds news t n made long own before p d lt = elim (cases_lt p (length olds)) [
    | inl low ↦ subst (λ m. IsStartBy at xs p m) (sym (ap (λ ns. get_or ns p d) made ∙ get_or-append olds (n ∷ []) d p low)) (before p d low)
    | inr high ↦
        let same : p ≡ length olds = omega (arith, ap length made, length-append olds (n ∷ [])) in
        subst (λ m. IsStartBy at xs p m) (sym (ap (λ ns. get_or ns p d) made ∙ (ap (λ k. get_or (olds ++ n ∷ []) k d) same ∙ get_or-append_seam olds n [] d))) (subst (λ q. IsStartBy at xs q n) (sym (same ∙ long)) own)
  ]

  -- past all, where all are of lesser points
  pub start_past : (xs : List X) (t : ℕ) → ((x : X) → Contains xs x → at x < t) → IsStartBy at xs t (length xs)
  start_past xs t all = record { within = omega arith; before = λ k d lt. all (get_or xs k d) (k, lt, get_or_default xs k (get_or xs k d) d lt); behind = λ k d le lt. absurd (omega arith) }

  module _ (xs : List X) (p n m : ℕ) (low : IsStartBy at xs p n) (high : IsStartBy at xs (p + 1) m) where
    pub starts_up : n ≤ m
    starts_up = elim (cases_lt m n) [
      | inl lt ↦ go xs low high lt
      | inr le ↦ le
    ]
      where
        go : (ys : List X) → IsStartBy at ys p n → IsStartBy at ys (p + 1) m → m < n → n ≤ m
        go [] l h lt = absurd (omega (arith, l.within))
        go (y ∷ ys) l h lt = absurd (omega (arith, l.within, l.before m y lt, h.behind m y (omega arith) (omega (arith, l.within))))

    -- between two starts stand the items of the point
    pub between_starts : (x : X) → Contains (take (m - n) (drop n xs)) x ↔ (Contains xs x × (at x ≡ p))
    between_starts x = (
      λ c.
          let k = c.0 in
          let short : k < m - n = omega (arith, c.1, length-take (m - n) (drop n xs)) in
          let there : n + k < length xs = omega (arith, high.within) in
          let read : get_or xs (n + k) x ≡ x = sym (get_or-take (m - n) (drop n xs) k x short ∙ get_or-drop n xs k x) ∙ c.2 in
          let least : p ≤ at (get_or xs (n + k) x) = low.behind (n + k) x (omega arith) there in
          let most : at (get_or xs (n + k) x) < p + 1 = high.before (n + k) x (omega arith) in
          ((n + k, there, read), (ap at (sym read) ∙ omega arith)),
      λ both.
          let k = both.0.0 in
          let lt = both.0.1 in
          let read : get_or xs k x ≡ x = both.0.2 in
          let point : at (get_or xs k x) ≡ p = ap at read ∙ both.1 in
          let least : n ≤ k = elim (cases_lt k n) [ inl below ↦ absurd (omega (arith, low.before k x below)) | inr le ↦ le ] in
          let most : k < m = elim (cases_lt k m) [ inl below ↦ below | inr le ↦ absurd (omega (arith, high.behind k x le lt)) ] in
          let back : n + (k - n) ≡ k = omega arith in (
            k - n,
            omega (arith, length-take (m - n) (drop n xs), length-drop n xs, high.within),
            get_or-take (m - n) (drop n xs) (k - n) x (omega arith) ∙ (get_or-drop n xs (k - n) x ∙ (ap (λ j. get_or xs j x) back ∙ read)),
          ),
    )

  -- the items of a point, by the starts
  module _ (xs : List X) (starts : List ℕ) (p : ℕ) (are : AreStartsBy at xs starts) (within : p + 1 < length starts) where
    pub part_rises : get_or starts p 0 ≤ get_or starts (p + 1) 0
    part_rises = starts_up xs p (get_or starts p 0) (get_or starts (p + 1) 0) (are.each p 0 (omega arith)) (are.each (p + 1) 0 within)

    pub part_within : get_or starts (p + 1) 0 ≤ length xs
    part_within = (are.each (p + 1) 0 within).within

    pub part_exact : (x : X) → Contains (take (get_or starts (p + 1) 0 - get_or starts p 0) (drop (get_or starts p 0) xs)) x ↔ (Contains xs x × (at x ≡ p))
    part_exact = between_starts xs p (get_or starts p 0) (get_or starts (p + 1) 0) (are.each p 0 (omega arith)) (are.each (p + 1) 0 within)

  -- of a point whose start is the next one's there are none
  pub none_at : (xs : List X) (starts : List ℕ) (p : ℕ) → AreStartsBy at xs starts → IsEmptyAt starts p → (x : X) → Contains xs x → at x ≡ p → ⊥
  none_at xs starts p are empty x c is =
      let within : p + 1 < length starts = omega (arith, is, are.within x c) in
      let same = empty within in
      let k = c.0 in
      let read : at (get_or xs k x) ≡ p = ap at c.2 ∙ is in
      elim (cases_lt k (get_or starts p 0)) [
        | inl below ↦ omega (arith, read, (are.each p 0 (omega arith)).before k x below)
        | inr le ↦ omega (arith, read, (are.each (p + 1) 0 within).behind k x (omega (arith, same)) c.1)
      ]

-- a part of an ascending list is one
pub ascending_part : {X : Type 0} (R : X → X → Ordering) (xs : List X) (n k : ℕ) → IsAscending R xs → IsAscending R (take k (drop n xs))
ascending_part R xs n k up i j d low high =
    let short : j < k = omega (arith, length-take k (drop n xs), high) in
    let within : n + j < length xs = omega (arith, length-take k (drop n xs), length-drop n xs, high) in
    let above : get_or (take k (drop n xs)) j d ≡ get_or xs (n + j) d = get_or-take k (drop n xs) j d short ∙ get_or-drop n xs j d in
    let below : get_or (take k (drop n xs)) i d ≡ get_or xs (n + i) d = get_or-take k (drop n xs) i d (omega arith) ∙ get_or-drop n xs i d in
    (λ m. R (below m) (above m)) ∙ up (n + i) (n + j) d (omega arith) within

point_up : (a b : HeadPair) → head_cmp a b ≡ Less → a.point ≤ b.point
point_up a b h = grind (arith, nat_tests)

-- a start that is known to be one for a lesser point, where the next pair is of no lesser point
pub start_kept : (heads : List HeadPair) (t n : ℕ) → IsAscending head_cmp heads → n ≤ length heads → ((k : ℕ) (d : HeadPair) → k < n → (get_or heads k d).point < t)
    → ((d : HeadPair) → n < length heads → t ≤ (get_or heads n d).point) → IsStartBy (λ (h : HeadPair). h.point) heads t n
start_kept heads t n up within before next = record {
  within = within;
  before = before;
  behind = λ k d le lt. elim (eq-or-lt_of_le le) [
    | inl same ↦ subst (λ j. t ≤ (get_or heads j d).point) same (next d (omega arith))
    | inr less ↦ omega (arith, next d (omega arith), point_up (get_or heads n d) (get_or heads k d) (up n k d less lt))
  ];
}
