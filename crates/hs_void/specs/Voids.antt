-- Which environments are void, by rows.
--     BasisData            a problem with the sites of each of its nonterminals, and the rows of a table and of void pairs
--     VoidsData            these, with what is remembered of sites and of environments
--     Remembers I b memo   each answer marks those sites that lack a row for the parameter and the type
--     IsVoidAnswer         whether an environment is void, by all that the rows stand for
--     Fits I v             the rows are of numbers in use, of entries in shape and in the order of points, and what is remembered is so
--     IsVoidBy             an environment is void by all that the rows stand for
--     AreLeastChoices      least unions of what may be chosen for sets of types of a point's arguments, but for void ones
--     HasBlocked           each chain of the pair's nonterminal has a site that is blocked for the environment
--     IsFirstWithout       the first pair of which this isn't so; there is none
use Rattle.std.specs.Prelude.{◌≡◌, refl, ℕ, ◌<◌, Bool, List, [], length, map, replicate, slice_get, Option, Some, None, Contains, All, IsTrue, ◌↔◌}
use Rattle.std.specs.Coded.{Coded, code_by, coded×, coded_ℕ, coded_bool, coded_list}
use Rattle.std.specs.List.Sorted.{IsNonDecreasingBy}
use Rattle.hs_scheme.specs.flow.Points.{PointData}
use Rattle.hs_scheme.specs.Problem.{ProblemData, coded_problem}
use Rattle.hs_table.specs.Entries.{Env, EntryData, InShape, params_of}
use Rattle.hs_weak.specs.Sites.{SiteData, IsChain}
use Rattle.hs_weak.specs.Void.{VoidData, IsVoid, IsBlocked}
use Rattle.hs_sites.specs.declared.sites.Site.{Site}
use Rattle.hs_sites.specs.Listed.{AreSitesOf, coded_site}
use Rattle.hs_types.specs.Interned.{InternerData, type_of_id, set_of_id, env_of_id, RowData, IsRow, entry_of}
use Rattle.hs_choices.specs.Unions.{AreLeastUnions}
use Rattle.hs_choices.specs.Slots.{AreSlots}
use Rattle.hs_numbered.specs.Certificates.{VoidRowData}
use Rattle.hs_choices.specs.Numbered.{envs_of, AreNumbered}
use Rattle.hs_void.specs.declared.memo.Question.{Question}
use Rattle.hs_void.specs.Rows.{LacksAt, AreMarks}

-- the sites of the nonterminal of rule G stand at place G
pub record BasisData : Type 0 where
  pub problem : ProblemData
  pub sites : List (List Site)
  pub table : List RowData
  pub void : List VoidRowData

abbrev coded_row : Coded RowData
coded_row = code_by (ℕ × (ℕ × ℕ)) (coded× coded_ℕ (coded× coded_ℕ coded_ℕ)) (λ r. (r.point, (r.env, r.ty))) (λ p. record { point = p.0; env = p.1.0; ty = p.1.1 }) (λ _. refl)

abbrev coded_void_row : Coded VoidRowData
coded_void_row = code_by (ℕ × ℕ) (coded× coded_ℕ coded_ℕ) (λ v. (v.rule, v.env)) (λ p. record { rule = p.0; env = p.1 }) (λ _. refl)

abbrev pub coded_basis : Coded BasisData
coded_basis =
    code_by (ProblemData × (List (List Site) × (List RowData × List VoidRowData))) (coded× coded_problem (coded× (coded_list (coded_list coded_site)) (coded× (coded_list coded_row) (coded_list coded_void_row))))
    (λ b. (b.problem, (b.sites, (b.table, b.void)))) (λ p. record { problem = p.0; sites = p.1.0; table = p.1.1.0; void = p.1.1.1 }) (λ _. refl)

pub record VoidsData : Type 0 where
  pub basis : BasisData
  pub memo : List (Question × List Bool)
  pub answers : List (VoidRowData × Bool)

abbrev coded_question : Coded Question
coded_question = code_by (ℕ × (ℕ × ℕ)) (coded× coded_ℕ (coded× coded_ℕ coded_ℕ)) (λ q. (q.rule, (q.parameter, q.ty))) (λ p. record { rule = p.0; parameter = p.1.0; ty = p.1.1 }) (λ _. refl)

abbrev pub coded_voids : Coded VoidsData
coded_voids =
    code_by (BasisData × (List (Question × List Bool) × List (VoidRowData × Bool))) (coded× coded_basis (coded× (coded_list (coded× coded_question (coded_list coded_bool))) (coded_list (coded× coded_void_row coded_bool))))
    (λ v. (v.basis, (v.memo, v.answers))) (λ p. record { basis = p.0; memo = p.1.0; answers = p.1.1 }) (λ _. refl)

pub record IsAnswer (I : InternerData) (b : BasisData) (q : Question) (answer : List Bool) : Type 0 where
  pub ty : q.ty < length I.types
  pub marks : (sites : List Site) → slice_get b.sites q.rule ≡ Some sites → AreMarks (LacksAt b.problem I b.table q.parameter (type_of_id I q.ty)) sites answer

abbrev pub Remembers : InternerData → BasisData → List (Question × List Bool) → Type 0
Remembers I b memo = (q : Question) (marks : List Bool) → Contains memo (q, marks) → IsAnswer I b q marks

pub record AreSitesBy (p : ProblemData) (sites : List (List Site)) : Type 0 where
  pub rules : length sites ≡ length p.sorted.scheme.rules
  pub each : (G : ℕ) (of : List Site) → slice_get sites G ≡ Some of → AreSitesOf p G of

pub record AreRows (I : InternerData) (b : BasisData) : Type 0 where
  pub in_use : All (IsRow I) b.table
  pub shape : (row : RowData) → Contains b.table row → InShape b.problem (entry_of I row)
  pub order : IsNonDecreasingBy (λ (r : RowData). r.point) b.table
  pub envs : All (λ (v : VoidRowData). v.env < length I.envs) b.void

abbrev pub IsVoidAnswer : InternerData → BasisData → VoidRowData → Bool → Type 0
IsVoidAnswer I b pair void =
    (pair.env < length I.envs) × ((C : List EntryData) (V : List VoidData) → AreNumbered b.problem C V I b.table b.void → IsTrue void ↔ IsVoid b.problem C V pair.rule (env_of_id I pair.env))

pub record Fits (I : InternerData) (v : VoidsData) : Type 0 where
  pub sites : AreSitesBy v.basis.problem v.basis.sites
  pub rows : AreRows I v.basis
  pub memo : Remembers I v.basis v.memo
  pub answers : (pair : VoidRowData) (void : Bool) → Contains v.answers (pair, void) → IsVoidAnswer I v.basis pair void

abbrev pub IsVoidBy : BasisData → InternerData → ℕ → Env → Type 0
IsVoidBy b I rule E = (C : List EntryData) (V : List VoidData) → AreNumbered b.problem C V I b.table b.void → IsVoid b.problem C V rule E

-- for arguments at these points, in a rule; the sets are numbers in old, and the unions in new
abbrev pub AreLeastChoices : BasisData → InternerData → InternerData → PointData → List ℕ → List ℕ → Type 0
AreLeastChoices b old new of sets kept =
    (C : List EntryData) (V : List VoidData) → AreNumbered b.problem C V old b.table b.void
    → (slots : List (List Env)) × (AreSlots b.problem C of.args (map (set_of_id old) sets) slots
    × AreLeastUnions (params_of b.problem of.rule) (IsVoid b.problem C V of.rule) (replicate (params_of b.problem of.rule) []) slots (envs_of new kept))

abbrev pub HasBlocked : ProblemData → List EntryData → List VoidData → VoidData → Type 0
HasBlocked p C V v = (sites : List SiteData) → IsChain p v.rule sites → (s : SiteData) × (Contains sites s × IsBlocked p C V s v.env)

pub record IsWithout (p : ProblemData) (C : List EntryData) (V : List VoidData) (place : ℕ) : Type 0 where
  pub pair : VoidData
  pub at : slice_get V place ≡ Some pair
  pub without : HasBlocked p C V pair → ⊥
  pub before : (k : ℕ) (v : VoidData) → k < place → slice_get V k ≡ Some v → HasBlocked p C V v

abbrev pub IsFirstWithout : ProblemData → List EntryData → List VoidData → Option ℕ → Type 0
IsFirstWithout p C V None = (v : VoidData) → Contains V v → HasBlocked p C V v
IsFirstWithout p C V (Some place) = IsWithout p C V place
