-- The entries of a table in ascending order.
use Rattle.std.proofs.Common.{◌≡◌, ◌∙◌, ap, subst, ℕ, ◌+◌, ◌<◌, List, [], ◌∷◌, length, map, get_or, arith, Contains, All, ◌↔◌, Bor}
use Rattle.std.specs.Ordering.{is_lt}
use Rattle.std.specs.declared.cmp.Ordering.{Ordering}
use Rattle.std.specs.List.Sorted.{IsSorted, IsSortedBy}
use Rattle.std.proofs.lemmas.List.{get_or-map, length-map}
use Rattle.std.proofs.lemmas.Option.{slice_get_within}
use Rattle.hs_scheme.specs.Problem.{ProblemData}
use Rattle.hs_table.specs.Entries.{EntryData, InShape}

-- what sorted references point to is sorted
module _ {X : Type 0} (cmp : X → X → Ordering) where
  abbrev pub values : List (Bor X) → List X
  values rs = map (λ r. r.now) rs

  pub sorted_values : (rs : List (Bor X)) → IsSortedBy (λ a b. is_lt (cmp a.now b.now)) rs → IsSorted cmp (values rs)
  sorted_values [] h k d low within = absurd (omega arith)
  sorted_values (r ∷ rs) h k d low within =
      let all = r ∷ rs in
      let long = length-map all (λ (q : Bor X). q.now) in
      let at : (i : ℕ) → i < length all → get_or (values all) i d ≡ (get_or all i r).now = λ i lt. get_or-map (λ (q : Bor X). q.now) all i r d lt in
      ap is_lt (λ i. cmp (at (k + 1) (omega (arith, within, long)) i) (at k (omega (arith, within, long)) i)) ∙ h k r low (omega (arith, within, long))

-- the points of a list with the same entries are in range, too
pub points_within : (p : ProblemData) (table : List EntryData) (rs : List (Bor EntryData)) → All (InShape p) table → ((e : EntryData) → Contains (map (λ r. r.now) rs) e ↔ Contains table e)
    → All (λ r. r.now.point < length p.points.points) rs
points_within p table [] shape same k d within = absurd (omega arith)
points_within p table (r ∷ rs) shape same k d within =
    let all = r ∷ rs in
    let e = (get_or all k d).now in
    let long = length-map all (λ (q : Bor EntryData). q.now) in
    let there : Contains (map (λ (q : Bor EntryData). q.now) all) e = (k, omega (arith, long), get_or-map (λ (q : Bor EntryData). q.now) all k d e within) in
    let found = (same e).0 there in
    let fits : InShape p e = subst (InShape p) found.2 (shape found.0 e found.1) in slice_get_within p.points.points e.point fits.of fits.at
