-- The order of an index: by point, by type and by environment, as their numbers are; and where its points begin.
--     HasRowAt R u t     a row at the point has the type
use Rattle.std.specs.Prelude.{◌≡◌, refl, ℕ, List, Contains}
use Rattle.std.specs.Coded.{Coded, code_by, coded×, coded_ℕ}
use Rattle.std.specs.List.Sorted.{IsSorted}
use Rattle.std.specs.Ordering.{nat_cmp, ordering_then}
use Rattle.std.specs.declared.cmp.Ordering.{Ordering}
use Rattle.hs_types.specs.Interned.{RowData}
use Rattle.hs_flow_checker.specs.Starts.{IsStartBy, AreStartsBy}

abbrev pub coded_row : Coded RowData
coded_row = code_by (ℕ × (ℕ × ℕ)) (coded× coded_ℕ (coded× coded_ℕ coded_ℕ)) (λ r. (r.point, (r.env, r.ty))) (λ p. record { point = p.0; env = p.1.0; ty = p.1.1 }) (λ _. refl)

-- the row against a point and a type
abbrev pub key_cmp : ℕ → ℕ → RowData → Ordering
key_cmp point ty r = ordering_then (nat_cmp r.point point) (nat_cmp r.ty ty)

abbrev pub row_cmp : RowData → RowData → Ordering
row_cmp a b = ordering_then (key_cmp b.point b.ty a) (nat_cmp a.env b.env)

abbrev pub IsInRowOrder : List RowData → Type 0
IsInRowOrder rows = IsSorted row_cmp rows

abbrev pub IsStartOfPoint : List RowData → ℕ → ℕ → Type 0
IsStartOfPoint rows point n = IsStartBy (λ (r : RowData). r.point) rows point n

abbrev pub AreStartsOfPoints : List RowData → List ℕ → Type 0
AreStartsOfPoints rows starts = AreStartsBy (λ (r : RowData). r.point) rows starts

pub record HasRowAt (R : List RowData) (point ty : ℕ) : Type 0 where
  pub row : RowData
  pub there : Contains R row
  pub at : row.point ≡ point
  pub typed : row.ty ≡ ty
