-- Environments that the arguments of no call have, where the flow is closed.
--     HasEntry         some entry in shape at the point has a type as strong as this one
--     IsMissed         by the entries alone: in each chain some site gives an argument without an entry that is asked of it
--     VoidData         a nonterminal with an environment for its parameters
--     void_cmp         pairs are ordered by nonterminal and environment
--     IsVoid           it asks at least what one of the list asks, or is missed
--     IsBlocked        where a site's arguments have what the environment asks, what they ask in their own rule is void
--     IsVoidShape      the nonterminal is one of the problem, and the environment one for its parameters
--     IsVoidPair       so is it, and in each chain for the environment some site is blocked
--     IsVoidList       this holds of each pair of the list
use Rattle.std.specs.Prelude.{◌≡◌, refl, ℕ, suc, ◌<◌, List, [], ◌∷◌, length, slice_get, Some, Contains, ◌⊎◌, ◌↔◌}
use Rattle.std.specs.Coded.{Coded, code_by, coded×, coded_ℕ, coded_list}
use Rattle.std.specs.Ordering.{nat_cmp, ordering_then}
use Rattle.std.specs.declared.cmp.Ordering.{Ordering}
use Rattle.hs_scheme.specs.flow.Points.{PointData}
use Rattle.hs_scheme.specs.Problem.{ProblemData}
use Rattle.hs_table.specs.Types.{TypeTree, coded_type, IsType}
use Rattle.hs_table.specs.Entries.{Env, EntryData, Has, set_at, env_cmp, IsEnv, params_of}
use Rattle.hs_table.specs.Follows.{IsAt, AnyHas}
use Rattle.hs_weak.specs.Strength.{AsStrongAs, AsksAtLeast}
use Rattle.hs_weak.specs.Weak.{WeaklyChosen}
use Rattle.hs_weak.specs.Sites.{SiteData, GivesTo, IsChain}

abbrev pub HasEntry : ProblemData → List EntryData → ℕ → TypeTree → Type 0
HasEntry p C u t = (place : ℕ) × (e : EntryData) × (IsAt p C place e × (e.point ≡ u) × AsStrongAs e.ty t)

-- of the types of E at the parameters of the site, one that no entry has at its argument
pub record Misses (p : ProblemData) (C : List EntryData) (s : SiteData) (E : Env) : Type 0 where
  pub j : ℕ
  pub u : ℕ
  pub t : TypeTree
  pub gives : GivesTo p s j u
  pub asked : Has E j t
  pub lacks : HasEntry p C u t → ⊥

-- So for a nonterminal with parameters and no chain, which nothing calls with all of them, every environment is missed.
abbrev pub IsMissed : ProblemData → List EntryData → ℕ → Env → Type 0
IsMissed p C G E = (sites : List SiteData) → IsChain p G sites → (s : SiteData) × (Contains sites s × Misses p C s E)

pub record VoidData : Type 0 where
  pub rule : ℕ
  pub env : Env

abbrev pub coded_void : Coded VoidData
coded_void =
    code_by (ℕ × Env) (coded× coded_ℕ (coded_list (coded_list coded_type))) (λ v. (v.rule, v.env)) (λ p. record { rule = p.0; env = p.1 }) (λ _. refl)

abbrev pub void_cmp : VoidData → VoidData → Ordering
void_cmp v w = ordering_then (nat_cmp v.rule w.rule) (env_cmp v.env w.env)

abbrev pub IsVoid : ProblemData → List EntryData → List VoidData → ℕ → Env → Type 0
IsVoid p C V G E = ((v : VoidData) × (Contains V v × (v.rule ≡ G) × AsksAtLeast AsStrongAs E v.env)) ⊎ IsMissed p C G E

-- the sets of an environment for arguments, the first of them at parameter g
abbrev pub sets_for : Env → ℕ → List ℕ → Env
sets_for B g [] = []
sets_for B g (u ∷ us) = set_at B g ∷ sets_for B (suc g) us

-- the environment for n parameters that asks just what the entries ask
pub record IsUnionOf (n : ℕ) (es : List EntryData) (env : Env) : Type 0 where
  pub is_env : IsEnv n env
  pub union : (j : ℕ) (a : TypeTree) → j < n → Has env j a ↔ AnyHas es j a

-- so for each choice of entries at the arguments whose types are as strong as those that B asks of them
abbrev pub IsBlocked : ProblemData → List EntryData → List VoidData → SiteData → Env → Type 0
IsBlocked p C V s B =
    (of : PointData) → slice_get p.points.points s.point ≡ Some of
    → (places : List (ℕ × ℕ)) (chosen : List EntryData) → WeaklyChosen AsStrongAs p C 0 of.args (sets_for B s.given of.args) places chosen
    → (env : Env) → IsUnionOf (params_of p of.rule) chosen env → IsVoid p C V of.rule env

pub record IsVoidShape (p : ProblemData) (v : VoidData) : Type 0 where
  pub rule : v.rule < length p.sorted.scheme.rules
  pub env : IsEnv (params_of p v.rule) v.env
  pub types : (j : ℕ) (a : TypeTree) → Has v.env j a → IsType p.sorted.automaton.states a

abbrev pub IsVoidPair : ProblemData → List EntryData → List VoidData → VoidData → Type 0
IsVoidPair p C V v = IsVoidShape p v × ((sites : List SiteData) → IsChain p v.rule sites → (s : SiteData) × (Contains sites s × IsBlocked p C V s v.env))

abbrev pub IsVoidList : ProblemData → List EntryData → List VoidData → Type 0
IsVoidList p C V = (v : VoidData) → Contains V v → IsVoidPair p C V v
