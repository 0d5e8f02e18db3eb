-- Entries: where each parameter of its rule is rejected by its types, the point is rejected by the type.
--     EntryData       a point, an environment with one set of types for each parameter of the point's rule, and a type
--     entry_at T k    the entry at place k of a list
--     Has env j a     the environment has the type at parameter j
--     InShape p e     point, environment and types are those of the problem p
--     entry_cmp       entries are ordered by point, environment and type; environments are lists of sets
use Rattle.std.specs.Prelude.{◌≡◌, refl, ℕ, List, [], length, slice_get, slice_index_or, Some, Contains}
use Rattle.std.specs.Option.{option_map_or}
use Rattle.std.specs.Coded.{Coded, code_by, coded×, coded_ℕ, coded_list}
use Rattle.std.specs.Ordering.{nat_cmp, ordering_then}
use Rattle.std.specs.Cmp.Lexicographic.{slice_cmp}
use Rattle.std.specs.declared.cmp.Ordering.{Ordering}
use Rattle.hs_scheme.specs.declared.term.Rule.{Rule}
use Rattle.hs_scheme.specs.flow.Points.{PointData}
use Rattle.hs_scheme.specs.Problem.{ProblemData}
use Rattle.hs_table.specs.Types.{TypeTree, coded_type, type_cmp, state, IsSet, IsType}

abbrev pub Env : Type 0
Env = List (List TypeTree)

pub record EntryData : Type 0 where
  pub point : ℕ
  pub env : Env
  pub ty : TypeTree

abbrev pub coded_entry : Coded EntryData
coded_entry =
    code_by (ℕ × (Env × TypeTree)) (coded× coded_ℕ (coded× (coded_list (coded_list coded_type)) coded_type)) (λ e. (e.point, (e.env, e.ty)))
    (λ p. record { point = p.0; env = p.1.0; ty = p.1.1 }) (λ _. refl)

-- the entry at a place; anything else where there is none
abbrev pub entry_at : List EntryData → ℕ → EntryData
entry_at T place = slice_index_or T place (record { point = 0; env = []; ty = state 0 })

-- the set of parameter j
abbrev pub set_at : Env → ℕ → List TypeTree
set_at env j = slice_index_or env j []

abbrev pub Has : Env → ℕ → TypeTree → Type 0
Has env j a = Contains (set_at env j) a

-- the number of parameters of a rule
abbrev pub params_of : ProblemData → ℕ → ℕ
params_of p f = option_map_or (λ (r : Rule). r.params) (slice_get p.sorted.scheme.rules f) 0

-- one set for each of n parameters
pub record IsEnv (n : ℕ) (env : Env) : Type 0 where
  pub long : length env ≡ n
  pub sets : (j : ℕ) → IsSet (set_at env j)

pub record InShape (p : ProblemData) (e : EntryData) : Type 0 where
  pub of : PointData
  pub at : slice_get p.points.points e.point ≡ Some of
  pub env : IsEnv (params_of p of.rule) e.env
  pub types : (j : ℕ) (a : TypeTree) → Has e.env j a → IsType p.sorted.automaton.states a
  pub ty : IsType p.sorted.automaton.states e.ty

abbrev pub env_cmp : Env → Env → Ordering
env_cmp a b = slice_cmp (slice_cmp type_cmp) a b

abbrev pub entry_cmp : EntryData → EntryData → Ordering
entry_cmp a b = ordering_then (nat_cmp a.point b.point) (ordering_then (env_cmp a.env b.env) (type_cmp a.ty b.ty))
