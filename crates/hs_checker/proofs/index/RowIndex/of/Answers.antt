use Rattle.std.proofs.Common.{sym, subst, List, map, Contains, Bor}
use Rattle.hs_types.specs.Interned.{RowData}
use Rattle.hs_checker.specs.Order.{row_cmp, IsInRowOrder, AreStartsOfPoints}
use Rattle.hs_checker.proofs.IndexLemmas.{index_total}
use Rattle.hs_checker.proofs.Once.{ascending_sorted}
use Rattle.hs_checker.proofs.index.RowIndex.of.Goals as goal

abbrev f : Bor RowData → RowData
f r = r.now

pub starts_of-requires-clause-sorted : goal.starts_of-requires-clause-sorted
starts_of-requires-clause-sorted c =
    subst (λ (rs : List (Bor RowData)). IsInRowOrder (map f rs)) (sym c.as_slice.ensures.value) (ascending_sorted row_cmp index_total (map f c.in_ok-rows.rows.items) c.in_ok-rows.ensures.once)

pub starts_of-requires-clause-within : goal.starts_of-requires-clause-within
starts_of-requires-clause-within c = λ r k.
    let here = subst (λ (rs : List (Bor RowData)). Contains (map f rs) r) c.as_slice.ensures.value k in
    let there = (c.in_ok-rows.ensures.each r).0 here in
    c.requires r (subst (λ (rs : List RowData). Contains rs r) c.in_ok-references.ensures there)

pub invariant_of-result : goal.invariant_of-result
invariant_of-result c = record {
  sorted = ascending_sorted row_cmp index_total (map f c.in_ok-rows.rows.items) c.in_ok-rows.ensures.once;
  once = c.in_ok-rows.ensures.once;
  starts = subst (λ (rs : List (Bor RowData)). AreStartsOfPoints (map f rs) c.in_ok-starts.starts.items) c.as_slice.ensures.value c.in_ok-starts.ensures;
}

pub returns : goal.returns
returns c = λ r.
    let same = c.in_ok-rows.ensures.each r in
    let is = c.in_ok-references.ensures in
    (λ k. subst (λ (rs : List RowData). Contains rs r) is (same.0 k), λ k. same.1 (subst (λ (rs : List RowData). Contains rs r) (sym is) k))
