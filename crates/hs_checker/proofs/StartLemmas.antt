-- Where the entries of a point begin in an index, and what stands between two starts.
use Rattle.std.proofs.Common.{◌≡◌, refl, sym, ◌∙◌, ap, subst, ℕ, ◌+◌, ◌-◌, ◌<◌, ◌≤◌, true, false, List, [], ◌∷◌, length, map, take, drop, get_or, arith, Contains, ◌↔◌, Bor}
use Rattle.std.specs.Ordering.{nat_cmp, is_lt, is_eq, ordering_index}
use Rattle.std.specs.declared.cmp.Ordering.{Ordering}
use Rattle.std.specs.declared.cmp.Ordering.TheVariants.{Equal}
use Rattle.std.specs.List.Sorted.{IsPartitionPoint, IsPartitionedBy}
use Rattle.std.proofs.lemmas.Bool.Decides.{nat_tests}
use Rattle.std.proofs.lemmas.List.{get_or-take, get_or-drop, length-drop, length-take, drop-map, take-map, get_or_default}
use Rattle.hs_scheme.specs.flow.Flow.{IsAscending}
use Rattle.hs_scheme.proofs.Orderings.{equal_of}
use Rattle.hs_scheme.proofs.Lists.{none_in}
use Rattle.hs_types.specs.Interned.{RowData}
use Rattle.hs_checker.specs.Order.{IsInRowOrder, IsStartOfPoint, AreStartsOfPoints, row_cmp}
use Rattle.hs_flow_checker.proofs.StartLemmas.{part_rises, part_exact, ascending_part}
use Rattle.hs_checker.proofs.IndexLemmas.{get_or-map, length-map, points_up}

abbrev entries : List (Bor RowData) → List RowData
entries rows = map (λ (r : Bor RowData). r.now) rows

-- an entry is read behind its reference
read_row : (rows : List (Bor RowData)) (k : ℕ) (d : RowData) (r : Bor RowData) → k < length rows → get_or (entries rows) k d ≡ (get_or rows k r).now
read_row rows k d r lt =
    let f : Bor RowData → RowData = λ x. x.now in
    get_or_default (entries rows) k d r.now (omega (arith, length-map f rows)) ∙ get_or-map f rows k r

not_below : (a b t : ℕ) → t ≤ a → ordering_index (nat_cmp a t) ≤ ordering_index (nat_cmp b t) → t ≤ b
not_below a b t h le = grind (arith, nat_tests)

-- a start that is known to be one for a lesser point, where the next entry is of no lesser point
pub start_kept_rows : (rows : List (Bor RowData)) (t n : ℕ) → IsInRowOrder (entries rows) → n ≤ length rows → ((k : ℕ) (d : Bor RowData) → k < n → (get_or rows k d).now.point < t)
    → ((d : Bor RowData) → n < length rows → t ≤ (get_or rows n d).now.point) → IsStartOfPoint (entries rows) t n
start_kept_rows [] t n up within before next = record { within = within; before = λ k d lt. absurd (omega arith); behind = λ k d le lt. absurd (omega arith) }
start_kept_rows (r ∷ rs) t n up within before next =
    let rows = r ∷ rs in
    let f : Bor RowData → RowData = λ x. x.now in
    let long = length-map f rows in
    record {
      within = omega (arith, long);
      before = λ k d lt. subst (λ (e : RowData). e.point < t) (sym (read_row rows k d r (omega arith))) (before k r lt);
      behind = λ k d le lt.
          let there : k < length rows = omega (arith, long) in
          subst (λ (e : RowData). t ≤ e.point) (sym (read_row rows k d r there)) (not_below (get_or rows n r).now.point (get_or rows k r).now.point t (next r (omega arith)) (points_up rows up t n k r le there));
    }

-- the entries of a point, by the starts of an index
module _ (rows : List (Bor RowData)) (starts : List ℕ) (p : ℕ) (are : AreStartsOfPoints (entries rows) starts) (within : p + 1 < length starts) where
  pub part_up : get_or starts p 0 ≤ get_or starts (p + 1) 0
  part_up = part_rises (λ (e : RowData). e.point) (entries rows) starts p are within

  pub part_has : (e : RowData) → Contains (entries (take (get_or starts (p + 1) 0 - get_or starts p 0) (drop (get_or starts p 0) rows))) e ↔ (Contains (entries rows) e × (e.point ≡ p))
  part_has e =
      let f : Bor RowData → RowData = λ x. x.now in
      let n = get_or starts p 0 in
      let m = get_or starts (p + 1) 0 in
      subst (λ es. Contains es e ↔ (Contains (entries rows) e × (e.point ≡ p))) (ap (take (m - n)) (drop-map f n rows) ∙ take-map f (m - n) (drop n rows))
      (part_exact (λ (e : RowData). e.point) (entries rows) starts p are within e)

pub none_of : (rows : List (Bor RowData)) (e : RowData) → Contains (entries (take 0 rows)) e → ⊥
none_of [] e c = none_in e c
none_of (r ∷ rows) e c = none_in e c

-- a part of an index is one
pub index_part : (rows : List (Bor RowData)) (n k : ℕ) → IsInRowOrder (entries rows) → IsInRowOrder (entries (take k (drop n rows)))
index_part rows n k up =
    let f : Bor RowData → RowData = λ x. x.now in
    subst (λ es. IsInRowOrder es) (ap (take k) (drop-map f n rows) ∙ take-map f k (drop n rows)) (part (entries rows) up)
  where
    part : (es : List RowData) → IsInRowOrder es → IsInRowOrder (take k (drop n es))
    part es up i d low high =
        let short : i + 1 < k = omega (arith, length-take k (drop n es), high) in
        let within : n + i + 1 < length es = omega (arith, length-take k (drop n es), length-drop n es, high) in
        let next : n + (i + 1) ≡ n + i + 1 = omega arith in
        let above : get_or (take k (drop n es)) (i + 1) d ≡ get_or es (n + i + 1) d = get_or-take k (drop n es) (i + 1) d short ∙ (get_or-drop n es (i + 1) d ∙ ap (λ j. get_or es j d) next) in
        let below : get_or (take k (drop n es)) i d ≡ get_or es (n + i) d = get_or-take k (drop n es) i d (omega arith) ∙ get_or-drop n es i d in
        (λ j. is_lt (row_cmp (above j) (below j))) ∙ up (n + i) d (omega arith) within

pub once_part : (rows : List (Bor RowData)) (n k : ℕ) → IsAscending row_cmp (entries rows) → IsAscending row_cmp (entries (take k (drop n rows)))
once_part rows n k up =
    let f : Bor RowData → RowData = λ x. x.now in
    subst (λ es. IsAscending row_cmp es) (ap (take k) (drop-map f n rows) ∙ take-map f k (drop n rows)) (ascending_part row_cmp (entries rows) n k up)

-- those of one type stand before the others
pub split_at : {X : Type 0} (ord : X → Ordering) (xs : List X) (n : ℕ) → IsPartitionedBy (λ y. is_eq (ord y)) xs → n ≤ length xs → ((k : ℕ) (d : X) → k < n → ord (get_or xs k d) ≡ Equal)
    → ((d : X) → n < length xs → ord (get_or xs n d) ≡ Equal → ⊥) → IsPartitionPoint (λ y. is_eq (ord y) ≡ true) (λ y. is_eq (ord y) ≡ false) xs n
split_at ord xs n parted within equal end = (
  λ k d low lt. ap is_eq (equal k d lt),
  λ k d le lt. elim (is_eq (ord (get_or xs k d))) as (λ b. is_eq (ord (get_or xs k d)) ≡ b → is_eq (ord (get_or xs k d)) ≡ false) [
    | true ↦ λ h. absurd (end d (omega arith) (equal_of (ord (get_or xs n d)) (parted n k d le lt h)))
    | false ↦ λ h. h
  ] refl,
)
