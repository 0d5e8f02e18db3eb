-- Rows by their points and by the states at the ends of their types; only private contracts cite it.
--     EndData            the rows by point and state
--     rows_ending        those of a point and a state, none where there are no such
use Rattle.std.specs.Prelude.{refl, ℕ, List, [], unwrap_or}
use Rattle.std.specs.Map.{lookup}
use Rattle.std.specs.Coded.{Coded, code_by, coded×, coded_ℕ, coded_list}
use Rattle.hs_scheme.specs.Key.{key_eq}
use Rattle.hs_types.specs.Interned.{RowData}

abbrev pub EndData : Type 0
EndData = List ((ℕ × ℕ) × List RowData)

abbrev pub coded_row : Coded RowData
coded_row = code_by (ℕ × (ℕ × ℕ)) (coded× coded_ℕ (coded× coded_ℕ coded_ℕ)) (λ r. (r.point, (r.env, r.ty))) (λ p. record { point = p.0; env = p.1.0; ty = p.1.1 }) (λ _. refl)

abbrev pub coded_ends : Coded EndData
coded_ends = coded_list (coded× (coded× coded_ℕ coded_ℕ) (coded_list coded_row))

abbrev pub rows_ending : EndData → ℕ → ℕ → List RowData
rows_ending es u q = unwrap_or (lookup (key_eq (u, q)) es) []
