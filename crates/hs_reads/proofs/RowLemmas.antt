-- Pairs of a point and a state, by the point.
use Rattle.std.proofs.Common.{◌≡◌, refl, sym, ◌∙◌, ap, subst, ℕ, zero, suc, ◌+◌, ◌<◌, List, [], ◌∷◌, ◌++◌, length, get_or, set, Contains, inl, inr, ◌↔◌, arith}
use Rattle.std.proofs.lemmas.List.{append_assoc, set-get_or}
use Rattle.std.proofs.lemmas.List.Elements.{Contains-append_left, Contains-append_right, Contains-append_cases}
use Rattle.hs_scheme.proofs.Lists.{none_in, here, later, uncons, slice_get-read}
use Rattle.hs_reads.specs.Lists.{list_of}
use Rattle.hs_reads.specs.ByPoint.{row_pairs, pairs_from, pairs_by_point, IsOneMore}
use Rattle.hs_reads.proofs.ListLemmas.{list-read}

in_row : (point : ℕ) (states : List ℕ) (q : ℕ) → Contains states q → Contains (row_pairs point states) (point, q)
in_row point [] q m = absurd (none_in q m)
in_row point (r ∷ states) q m = elim (uncons r q states m) [
  | inl is ↦ subst (λ z. Contains (row_pairs point (r ∷ states)) (point, z)) (sym is) (here (point, r) (row_pairs point states))
  | inr rest ↦ later (point, r) (point, q) (row_pairs point states) (in_row point states q rest)
]

row_in : (point : ℕ) (states : List ℕ) (w q : ℕ) → Contains (row_pairs point states) (w, q) → (w ≡ point) × Contains states q
row_in point [] w q m = absurd (none_in (w, q) m)
row_in point (r ∷ states) w q m = elim (uncons (point, r) (w, q) (row_pairs point states) m) [
  | inl is ↦ (ap (λ (x : ℕ × ℕ). x.0) is, subst (λ z. Contains (r ∷ states) z) (sym (ap (λ (x : ℕ × ℕ). x.1) is)) (here r states))
  | inr rest ↦ let h = row_in point states w q rest in (h.0, later r q states h.1)
]

none_of : (k q : ℕ) → Contains (list_of [] k) q → ⊥
none_of k q m = none_in q m

from_has : (n : ℕ) (rows : List (List ℕ)) (k q : ℕ) → Contains (list_of rows k) q → Contains (pairs_from n rows) (n + k, q)
from_has n [] k q m = absurd (none_of k q m)
from_has n (states ∷ rows) zero q m =
    let is : n ≡ n + 0 = omega arith in
    subst (λ w. Contains (pairs_from n (states ∷ rows)) (w, q)) is (Contains-append_left (row_pairs n states) (pairs_from (n + 1) rows) (n, q) (in_row n states q m))
from_has n (states ∷ rows) (suc k) q m =
    let is : n + 1 + k ≡ n + suc k = omega arith in
    subst (λ w. Contains (pairs_from n (states ∷ rows)) (w, q)) is (Contains-append_right (row_pairs n states) (pairs_from (n + 1) rows) (n + 1 + k, q) (from_has (n + 1) rows k q m))

has_from : (n : ℕ) (rows : List (List ℕ)) (w q : ℕ) → Contains (pairs_from n rows) (w, q) → (k : ℕ) × ((w ≡ n + k) × Contains (list_of rows k) q)
has_from n [] w q m = absurd (none_in (w, q) m)
has_from n (states ∷ rows) w q m = elim (Contains-append_cases (row_pairs n states) (pairs_from (n + 1) rows) (w, q) m) [
  | inl own ↦ let h = row_in n states w q own in (0, (omega (arith, h.0), h.1))
  | inr rest ↦ let h = has_from (n + 1) rows w q rest in (suc h.0, (omega (arith, h.1.0), h.1.1))
]

-- a state is in its point's row where the pair is listed
pub by_point : (rows : List (List ℕ)) (point q : ℕ) → Contains (list_of rows point) q ↔ Contains (pairs_by_point rows) (point, q)
by_point rows point q = (
  λ m. let is : 0 + point ≡ point = omega arith in subst (λ w. Contains (pairs_by_point rows) (w, q)) is (from_has 0 rows point q m),
  λ m. let h = has_from 0 rows point q m in let is : h.0 ≡ point = omega (arith, h.1.0) in subst (λ k. Contains (list_of rows k) q) is h.1.1,
)

-- one more point without states
from_reached : (n : ℕ) (rows : List (List ℕ)) → pairs_from n (rows ++ [] ∷ []) ≡ pairs_from n rows
from_reached n [] = refl
from_reached n (states ∷ rows) = ap (λ (xs : List (ℕ × ℕ)). row_pairs n states ++ xs) (from_reached (n + 1) rows)

pub reached : (rows : List (List ℕ)) → pairs_by_point (rows ++ [] ∷ []) ≡ pairs_by_point rows
reached rows = from_reached 0 rows

-- one more state in a row
row_more : (point : ℕ) (states : List ℕ) (q : ℕ) (rest : List (ℕ × ℕ)) → row_pairs point (states ++ q ∷ []) ++ rest ≡ row_pairs point states ++ (point, q) ∷ rest
row_more point [] q rest = refl
row_more point (r ∷ states) q rest = ap (λ (xs : List (ℕ × ℕ)). (point, r) ∷ xs) (row_more point states q rest)

from_more : (n : ℕ) (rows : List (List ℕ)) (k q : ℕ) → k < length rows → IsOneMore (n + k, q) (pairs_from n rows) (pairs_from n (set rows k (list_of rows k ++ q ∷ [])))
from_more n [] k q lt = absurd (omega (arith, lt))
from_more n (states ∷ rows) zero q lt =
    let is : n ≡ n + 0 = omega arith in
    record {
      before = row_pairs n states;
      behind = pairs_from (n + 1) rows;
      old_is = refl;
      new_is = row_more n states q (pairs_from (n + 1) rows) ∙ ap (λ w. row_pairs n states ++ (w, q) ∷ pairs_from (n + 1) rows) is;
    }
from_more n (states ∷ rows) (suc k) q lt =
    let is : n + 1 + k ≡ n + suc k = omega arith in
    let rest = from_more (n + 1) rows k q (omega (arith, lt)) in
    let own = row_pairs n states in
    record {
      before = own ++ rest.before;
      behind = rest.behind;
      old_is = ap (λ (xs : List (ℕ × ℕ)). own ++ xs) rest.old_is ∙ sym (append_assoc own rest.before rest.behind);
      new_is = ap (λ (xs : List (ℕ × ℕ)). own ++ xs) (rest.new_is ∙ ap (λ w. rest.before ++ (w, q) ∷ rest.behind) is) ∙ sym (append_assoc own rest.before ((n + suc k, q) ∷ rest.behind));
    }

pub one_more : (rows : List (List ℕ)) (point q : ℕ) → point < length rows → IsOneMore (point, q) (pairs_by_point rows) (pairs_by_point (set rows point (list_of rows point ++ q ∷ [])))
one_more rows point q lt =
    let is : 0 + point ≡ point = omega arith in
    subst (λ w. IsOneMore (w, q) (pairs_by_point rows) (pairs_by_point (set rows point (list_of rows point ++ q ∷ [])))) is (from_more 0 rows point q lt)

-- the row of a point, as it is read and written back
module _ (rows : List (List ℕ)) (point : ℕ) (row new : List ℕ) (lt : point < length rows) (is : row ≡ get_or rows point row) where
  pub row_is : list_of rows point ≡ row
  row_is = list-read rows point row (slice_get-read rows point row lt (sym is))

  pub row_same : new ≡ row → pairs_by_point (set rows point new) ≡ pairs_by_point rows
  row_same same = ap (λ (rs : List (List ℕ)). pairs_by_point rs) (ap (λ (r : List ℕ). set rows point r) (same ∙ is) ∙ set-get_or rows point row)

  pub row_longer : (q : ℕ) → new ≡ row ++ q ∷ [] → IsOneMore (point, q) (pairs_by_point rows) (pairs_by_point (set rows point new))
  row_longer q pushed =
      let more : list_of rows point ++ q ∷ [] ≡ new = ap (λ (r : List ℕ). r ++ q ∷ []) row_is ∙ sym pushed in
      subst (λ (r : List ℕ). IsOneMore (point, q) (pairs_by_point rows) (pairs_by_point (set rows point r))) more (one_more rows point q lt)

  pub row_has : (q : ℕ) → Contains row q ↔ Contains (pairs_by_point rows) (point, q)
  row_has q = subst (λ (r : List ℕ). Contains r q ↔ Contains (pairs_by_point rows) (point, q)) row_is (by_point rows point q)
