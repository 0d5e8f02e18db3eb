use Rattle.std.proofs.Common.{◌≡◌, sym, ◌∙◌, ap, subst, ℕ, List, map, length, get_or, Contains, Bor, arith}
use Rattle.hs_types.specs.Interned.{RowData}
use Rattle.hs_scheme.specs.flow.Flow.{IsAscending}
use Rattle.hs_checker.specs.Order.{row_cmp, IsInRowOrder, AreStartsOfPoints}
use Rattle.hs_checker.proofs.StartLemmas.{none_of, part_up, part_has, index_part, once_part}
use Rattle.hs_checker.proofs.index.RowIndex.at_point.Goals as goal

-- what is known of the fields is known of the slices of them
moved : (rows sliced : List (Bor RowData)) (starts items : List ℕ) → sliced ≡ rows → items ≡ starts → AreStartsOfPoints (map (λ (r : Bor RowData). r.now) rows) starts → AreStartsOfPoints (map (λ (r : Bor RowData). r.now) sliced) items
moved rows sliced starts items e f h =
    subst (λ (xs : List ℕ). AreStartsOfPoints (map (λ (r : Bor RowData). r.now) sliced) xs) (sym f) (subst (λ (rs : List (Bor RowData)). AreStartsOfPoints (map (λ (r : Bor RowData). r.now) rs) starts) (sym e) h)

pub returns-then-place-starts-clause-has : goal.returns-then-place-starts-clause-has
returns-then-place-starts-clause-has c = λ e. (
  λ k. absurd (none_of c.as_slice-rows.result.now e k),
  λ both.
      let there = c.self.invariant.starts.within e (subst (λ (es : List RowData). Contains es e) (sym c.self.view_is) both.0) in
      absurd (omega (arith, there, both.1, c.if-place-starts.true, ap length c.as_slice-starts.ensures.value)),
)

pub slice_bounds-result-count : goal.slice_bounds-result-count
slice_bounds-result-count c =
    part_up c.as_slice-rows.result.now c.as_slice-starts.result.now c.args.point
    (moved c.self.inside.rows.items c.as_slice-rows.result.now c.self.inside.starts.items c.as_slice-starts.result.now c.as_slice-rows.ensures.value c.as_slice-starts.ensures.value c.self.invariant.starts) c.if-place-starts.false

pub slice_bounds-result-start : goal.slice_bounds-result-start
slice_bounds-result-start c =
    part_up c.as_slice-rows.result.now c.as_slice-starts.result.now c.args.point
    (moved c.self.inside.rows.items c.as_slice-rows.result.now c.self.inside.starts.items c.as_slice-starts.result.now c.as_slice-rows.ensures.value c.as_slice-starts.ensures.value c.self.invariant.starts) c.if-place-starts.false

pub returns-clause-has : goal.returns-clause-has
returns-clause-has c = λ e.
    let f : Bor RowData → RowData = λ r. r.now in
    let is : map f c.as_slice-rows.result.now ≡ c.args.self.now = ap (map f) c.as_slice-rows.ensures.value ∙ c.self.view_is in
    let exact = part_has c.as_slice-rows.result.now c.as_slice-starts.result.now c.args.point
    (moved c.self.inside.rows.items c.as_slice-rows.result.now c.self.inside.starts.items c.as_slice-starts.result.now c.as_slice-rows.ensures.value c.as_slice-starts.ensures.value c.self.invariant.starts) c.if-place-starts.false e in
    (λ k. let b = exact.0 k in (subst (λ (es : List RowData). Contains es e) is b.0, b.1), λ b. exact.1 (subst (λ (es : List RowData). Contains es e) (sym is) b.0, b.1))

pub returns-clause-sorted : goal.returns-clause-sorted
returns-clause-sorted c =
    let f : Bor RowData → RowData = λ r. r.now in
    index_part c.as_slice-rows.result.now (get_or c.as_slice-starts.result.now c.args.point 0) _
    (subst (λ (rs : List (Bor RowData)). IsInRowOrder (map f rs)) (sym c.as_slice-rows.ensures.value) c.self.invariant.sorted)

pub returns-clause-once : goal.returns-clause-once
returns-clause-once c =
    let f : Bor RowData → RowData = λ r. r.now in
    once_part c.as_slice-rows.result.now (get_or c.as_slice-starts.result.now c.args.point 0) _
    (subst (λ (rs : List (Bor RowData)). IsAscending row_cmp (map f rs)) (sym c.as_slice-rows.ensures.value) c.self.invariant.once)

pub returns-then-place-starts-clause-once : goal.returns-then-place-starts-clause-once
returns-then-place-starts-clause-once c = once_part c.as_slice-rows.result.now 0 0 (subst (λ (rs : List (Bor RowData)). IsAscending row_cmp (map (λ (r : Bor RowData). r.now) rs)) (sym c.as_slice-rows.ensures.value) c.self.invariant.once)
