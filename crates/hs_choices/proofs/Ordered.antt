-- Where a search parts rows.
use Rattle.std.proofs.Common.{◌≡◌, sym, ◌∙◌, ap, ℕ, ◌+◌, ◌<◌, ◌≤◌, true, false, ltb, List, length, get_or, inl, inr, arith}
use Rattle.std.specs.List.Sorted.{IsPartitionPoint, IsNonDecreasingBy}
use Rattle.std.proofs.lemmas.Bool.{cases_lt, ltb-true, ltb-false}
use Rattle.std.proofs.lemmas.List.{get_or_default}
use Rattle.hs_types.specs.Interned.{RowData}
use Rattle.hs_flow_checker.specs.Starts.{IsStartBy}

pub start_below : (rows : List RowData) (u n : ℕ) → n ≤ length rows → IsPartitionPoint (λ (r : RowData). ltb r.point u ≡ true) (λ (r : RowData). ltb r.point u ≡ false) rows n → IsStartBy (λ (r : RowData). r.point) rows u n
start_below rows u n within parted = record {
  within = within;
  before = λ k d lt. ltb-true (get_or rows k d).point u (parted.0 k d (omega arith) lt);
  behind = λ k d le lt. ltb-false (get_or rows k d).point u (parted.1 k d le lt);
}

-- where the rows of the point end, looked for from their start
module _ (rows : List RowData) (u from : ℕ) (order : IsNonDecreasingBy (λ (r : RowData). r.point) rows) (start : IsStartBy (λ (r : RowData). r.point) rows u from) where
  pub low_first : (k : ℕ) (d : RowData) → k < from → (get_or rows k d).point < u + 1
  low_first k d lt = let below = start.before k d lt in omega (arith, below)

  pub low_more : (to : ℕ) (r : RowData) → to < length rows → r ≡ get_or rows to r → r.point ≡ u → ((k : ℕ) (d : RowData) → k < to → (get_or rows k d).point < u + 1)
      → (k : ℕ) (d : RowData) → k < to + 1 → (get_or rows k d).point < u + 1
  low_more to r within is at low k d lt = elim (cases_lt k to) [
    | inl before ↦ low k d before
    | inr le ↦
        let same : k ≡ to = omega (arith, lt, le) in
        let read : get_or rows k d ≡ r = ap (λ n. get_or rows n d) same ∙ (get_or_default rows to d r within ∙ sym is) in
        let point : (get_or rows k d).point ≡ u = ap (λ (x : RowData). x.point) read ∙ at in
        omega (arith, point)
  ]

  pub end_before : (to : ℕ) (r : RowData) → to < length rows → from ≤ to → r ≡ get_or rows to r → (r.point ≡ u → ⊥) → ((k : ℕ) (d : RowData) → k < to → (get_or rows k d).point < u + 1) → IsStartBy (λ (r : RowData). r.point) rows (u + 1) to
  end_before to r within from_to is other low = record {
    within = omega (arith, within);
    before = low;
    behind = λ k d le lt.
        let read : get_or rows to d ≡ r = get_or_default rows to d r within ∙ sym is in
        let least : u ≤ (get_or rows to d).point = start.behind to d from_to within in
        let rises : (get_or rows to d).point ≤ (get_or rows k d).point = order to k d le lt in
        let apart : (get_or rows to d).point ≡ u → ⊥ = λ same. other (sym (ap (λ (x : RowData). x.point) read) ∙ same) in
        elim (cases_lt u (get_or rows to d).point) [
          | inl above ↦ omega (arith, above, rises)
          | inr low_too ↦ absurd (apart (omega (arith, least, low_too)))
        ];
  }

  pub end_at_last : (to : ℕ) → to ≤ length rows → length rows ≤ to → ((k : ℕ) (d : RowData) → k < to → (get_or rows k d).point < u + 1) → IsStartBy (λ (r : RowData). r.point) rows (u + 1) to
  end_at_last to within past low = record { within = within; before = low; behind = λ k d le lt. absurd (omega (arith, past, le, lt)) }
