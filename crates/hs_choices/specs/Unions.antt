-- Unions of environments that are chosen, one from each of some lists.
--     SomeHas Es j a          one of the environments has the type at parameter j
--     IsUnionOfEnvs n Es K    K has a set for each of n parameters, and just the types that the environments have
--     Picks slots Es          one environment of each list
--     AsksOneOf Ks U          U asks at least what one of Ks asks
--     AreLeastUnions n D      of the unions of an environment with one of each list, as many as it takes that each other asks at least one of
--                             these, or is left out by D
use Rattle.std.specs.Prelude.{◌≡◌, ℕ, List, [], ◌∷◌, length, Contains, ◌⊎◌, ◌↔◌}
use Rattle.hs_table.specs.Types.{TypeTree}
use Rattle.hs_table.specs.Entries.{Env, Has}
use Rattle.hs_weak.specs.Strength.{AsStrongAs, AsksAtLeast}

abbrev pub SomeHas : List Env → ℕ → TypeTree → Type 0
SomeHas [] j a = ⊥
SomeHas (E ∷ Es) j a = Has E j a ⊎ SomeHas Es j a

pub record IsUnionOfEnvs (n : ℕ) (Es : List Env) (K : Env) : Type 0 where
  pub long : length K ≡ n
  pub exact : (j : ℕ) (a : TypeTree) → Has K j a ↔ SomeHas Es j a

abbrev pub Picks : List (List Env) → List Env → Type 0
Picks [] [] = Unit {0}
Picks [] (E ∷ Es) = ⊥
Picks (slot ∷ slots) [] = ⊥
Picks (slot ∷ slots) (E ∷ Es) = Contains slot E × Picks slots Es

abbrev pub AsksOneOf : List Env → Env → Type 0
AsksOneOf Ks U = (K : Env) × (Contains Ks K × AsksAtLeast AsStrongAs U K)

pub record IsUnionOfChoice (n : ℕ) (first : Env) (slots : List (List Env)) (K : Env) : Type 0 where
  pub chosen : List Env
  pub picked : Picks slots chosen
  pub union : IsUnionOfEnvs n (first ∷ chosen) K

-- So an environment that asks at least what the first asks, and of each list what one asks, as the union of a choice does, is looked at by
-- way of these, where it isn't left out.
pub record AreLeastUnions (n : ℕ) (D : Env → Type 0) (first : Env) (slots : List (List Env)) (kept : List Env) : Type 0 where
  pub unions : (K : Env) → Contains kept K → IsUnionOfChoice n first slots K
  pub least : (U : Env) → AsksAtLeast AsStrongAs U first → ((slot : List Env) → Contains slots slot → AsksOneOf slot U) → AsksOneOf kept U ⊎ D U
