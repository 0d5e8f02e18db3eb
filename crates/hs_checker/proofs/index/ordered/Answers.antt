use Rattle.std.proofs.Common.{◌≡◌, ◌∙◌, ap, List, map, Contains, ◌↔◌, Bor, rules}
use Rattle.std.specs.List.{dedup}
use Rattle.std.specs.Ordering.{is_lt, is_eq}
use Rattle.std.proofs.lemmas.Fn.{dedup_same}
use Rattle.std.proofs.lemmas.List.Sorted.{answers_always, ranks_by, IsPermutation-map}
use Rattle.std.specs.List.Sorted.{IsPermutation}
use Rattle.hs_scheme.specs.flow.Flow.{IsAscending}
use Rattle.hs_types.specs.Interned.{RowData}
use Rattle.hs_checker.specs.Order.{row_cmp, IsInRowOrder}
use Rattle.hs_checker.proofs.IndexLemmas.{index_total, index_same, index_sorted}
use Rattle.hs_checker.proofs.Once.{once_ascends, once_has, dedup-map}
use Rattle.hs_checker.proofs.index.ordered.Goals as goal

-- of rows that are sorted, and then kept once each
abbrev f : Bor RowData → RowData
f r = r.now

module _ (olds mids news : List (Bor RowData)) (made : news ≡ dedup (λ (a b : Bor RowData). is_eq (row_cmp a.now b.now)) mids) where
  image : map f news ≡ dedup (λ a b. is_eq (row_cmp a b)) (map f mids)
  image = ap (map f) made ∙ dedup-map f (λ a b. is_eq (row_cmp a b)) mids

  rows_once : IsInRowOrder (map f mids) → IsAscending row_cmp (map f news)
  rows_once up = once_ascends row_cmp index_total index_same (map f mids) (map f news) up image

  rows_same : IsPermutation olds mids → (e : RowData) → Contains (map f news) e ↔ Contains (map f olds) e
  rows_same moved = once_has row_cmp index_total index_same (map f olds) (map f mids) (map f news) (IsPermutation-map f olds mids moved) image

pub returns-clause-once : goal.returns-clause-once
returns-clause-once c =
    let mids = c.sort_by.new.self.items in
    let news = c.dedup_by.new.self.items in
    let made : news ≡ dedup (λ (a b : Bor RowData). is_eq (row_cmp a.now b.now)) mids = dedup_same _ (λ (a b : Bor RowData). is_eq (row_cmp a.now b.now)) _ (λ x y b g x2 y2 k. search rules) mids news c.dedup_by.ensures.filtered in
    let up = index_sorted mids (c.in_ok-sort_by.ensures.sorted (λ (a b : Bor RowData). is_lt (row_cmp a.now b.now)) (ranks_by index_total (λ (r : Bor RowData). r.now)) (answers_always _ _ _ (λ f a r g h. search rules))) in
    rows_once c.args.rows.items mids news made up

pub returns-clause-each : goal.returns-clause-each
returns-clause-each c =
    let mids = c.sort_by.new.self.items in
    let news = c.dedup_by.new.self.items in
    let made : news ≡ dedup (λ (a b : Bor RowData). is_eq (row_cmp a.now b.now)) mids = dedup_same _ (λ (a b : Bor RowData). is_eq (row_cmp a.now b.now)) _ (λ x y b g x2 y2 k. search rules) mids news c.dedup_by.ensures.filtered in
    rows_same c.args.rows.items mids news made c.sort_by.ensures.permutation
