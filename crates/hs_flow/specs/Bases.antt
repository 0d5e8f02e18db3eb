-- What parameters may become, as far as it is known.
--     BasesData                    what contracts see of the set: flags by number, and the bases for which there are none
--     HasFlag rows k j             in the list k the flag j is set
--     HasBase counts bases b       the set has the base
--     IsNumber counts rule x n     a parameter's number, and none where it is no parameter
--     TellsNew P added             whether something was added tells whether P didn't hold
use Rattle.std.specs.Prelude.{◌≡◌, refl, ◌<◌, ℕ, length, List, Bool, true, false, ◌⊎◌, slice_get, Some, Option, SomeIff, Contains}
use Rattle.std.specs.Coded.{Coded, code_by, coded×, coded_ℕ, coded_bool, coded_list}
use Rattle.hs_scheme.specs.sorting.Parameters.{IsParameter, parameter_of}
use Rattle.hs_flow.specs.declared.bases.Base.{Base}
use Rattle.hs_flow.specs.Lists.{list_of}

pub record BasesData : Type 0 where
  pub rows : List (List Bool)
  pub others : List Base

abbrev pub coded_base : Coded Base
coded_base =
    code_by (ℕ × (ℕ × (ℕ × ℕ))) (coded× coded_ℕ (coded× coded_ℕ (coded× coded_ℕ coded_ℕ))) (λ b. (b.rule, (b.param, (b.base, b.given))))
    (λ p. record { rule = p.0; param = p.1.0; base = p.1.1.0; given = p.1.1.1 }) (λ _. refl)

abbrev pub coded_bases : Coded BasesData
coded_bases =
    code_by (List (List Bool) × List Base) (coded× (coded_list (coded_list coded_bool)) (coded_list coded_base)) (λ b. (b.rows, b.others))
    (λ p. record { rows = p.0; others = p.1 }) (λ _. refl)

abbrev pub HasFlag : List (List Bool) → ℕ → ℕ → Type 0
HasFlag rows k j = slice_get (list_of rows k) j ≡ Some true

-- the base is a flag of the parameter's row
pub record InRows (counts : List ℕ) (rows : List (List Bool)) (b : Base) : Type 0 where
  pub param : IsParameter counts b.rule b.param
  pub base : IsParameter counts b.base b.given
  pub flag : HasFlag rows (parameter_of counts b.rule b.param) (parameter_of counts b.base b.given)

-- no row is for the base
abbrev pub IsOutside : List ℕ → List (List Bool) → Base → Type 0
IsOutside counts rows b = IsParameter counts b.rule b.param → IsParameter counts b.base b.given → parameter_of counts b.rule b.param < length rows → ⊥

abbrev pub HasBase : List ℕ → BasesData → Base → Type 0
HasBase counts bases b = InRows counts bases.rows b ⊎ (IsOutside counts bases.rows b × Contains bases.others b)

abbrev pub IsNumber : List ℕ → ℕ → ℕ → Option ℕ → Type 0
IsNumber counts rule x n = SomeIff n (IsParameter counts rule x) (parameter_of counts rule x)

abbrev pub TellsNew : Type 0 → Bool → Type 0
TellsNew P true = P → ⊥
TellsNew P false = P
