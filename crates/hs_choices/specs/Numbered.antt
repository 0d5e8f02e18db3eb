-- Environments by number, and how unions of them are made.
--     envs_of, slot_envs            what numbers stand for
--     AreInUse, AreOfLength n       the numbers are in use; and stand for environments of n parameters
--     IsUnionMade                   the number stands for the union
--     IsAdded                       the unions of an environment with those of a slot were added to some, as far as it takes
--     AreAllUnions                  the unions of one of some environments with one of a slot, as many as it takes
--     AreOfStrong, AreOfEach        the environments of rows with types as strong as one; as each of a list
--     AreSlotsAdded                 the slots for a set of types stand at the end
--     AreRowsAt, AreTableRows       the rows of the table's entries at a point; of all
--     AreAtPoint                    the rows at a point, of some
--     AreOfArguments                slots for the types of the sets of arguments
--     AreNumbered                   rows of the entries that count, by point, and of the void pairs
use Rattle.std.specs.Prelude.{◌≡◌, ℕ, ◌<◌, List, [], ◌∷◌, ◌++◌, length, map, Contains, All, ◌⊎◌, ◌↔◌}
use Rattle.std.specs.List.Sorted.{IsNonDecreasingBy}
use Rattle.hs_scheme.specs.Problem.{ProblemData}
use Rattle.hs_table.specs.Types.{TypeTree}
use Rattle.hs_table.specs.Entries.{Env, EntryData}
use Rattle.hs_table.specs.Follows.{IsAt}
use Rattle.hs_weak.specs.Strength.{AsStrongAs, AsksAtLeast}
use Rattle.hs_weak.specs.Void.{VoidData}
use Rattle.hs_types.specs.Interned.{InternerData, type_of_id, env_of_id, RowData, IsRow, entry_of, IsUnionEnv}
use Rattle.hs_numbered.specs.Certificates.{VoidRowData, void_of}
use Rattle.hs_choices.specs.Unions.{AsksOneOf}

abbrev pub envs_of : InternerData → List ℕ → List Env
envs_of I ks = map (env_of_id I) ks

abbrev pub slot_envs : InternerData → List (List ℕ) → List (List Env)
slot_envs I slots = map (envs_of I) slots

abbrev pub AreInUse : InternerData → List ℕ → Type 0
AreInUse I ks = All (λ k. k < length I.envs) ks

abbrev pub AreOfLength : ℕ → InternerData → List ℕ → Type 0
AreOfLength n I ks = All (λ k. (k < length I.envs) × (length (env_of_id I k) ≡ n)) ks

abbrev pub IsUnionMade : InternerData → InternerData → ℕ → ℕ → ℕ → Type 0
IsUnionMade old new k l union = (union < length new.envs) × IsUnionEnv (env_of_id old k) (env_of_id old l) (env_of_id new union)

pub record IsUnionWith (E : Env) (slot : List Env) (K : Env) : Type 0 where
  pub other : Env
  pub there : Contains slot other
  pub union : IsUnionEnv E other K

-- the numbers are read in old, but those in `after` in new; D says what is left out
pub record IsAdded (D : Env → Type 0) (old new : InternerData) (before : List ℕ) (env : ℕ) (slot after : List ℕ) : Type 0 where
  pub range : AreOfLength (length (env_of_id old env)) new after
  pub come : (K : Env) → Contains (envs_of new after) K → Contains (envs_of old before) K ⊎ IsUnionWith (env_of_id old env) (envs_of old slot) K
  pub keeps : (U : Env) → AsksOneOf (envs_of old before) U → AsksOneOf (envs_of new after) U ⊎ D U
  pub least : (U : Env) → AsksAtLeast AsStrongAs U (env_of_id old env) → AsksOneOf (envs_of old slot) U → AsksOneOf (envs_of new after) U ⊎ D U

pub record AreAllUnions (D : Env → Type 0) (n : ℕ) (old new : InternerData) (kept slot unions : List ℕ) : Type 0 where
  pub range : AreOfLength n new unions
  pub come : (K : Env) → Contains (envs_of new unions) K → (E : Env) × (Contains (envs_of old kept) E × IsUnionWith E (envs_of old slot) K)
  pub least : (U : Env) → AsksOneOf (envs_of old kept) U → AsksOneOf (envs_of old slot) U → AsksOneOf (envs_of new unions) U ⊎ D U

-- by rows: the environments of those with a type as strong as this one
pub record AreOfStrong (I : InternerData) (rows : List RowData) (ty : TypeTree) (ks : List ℕ) : Type 0 where
  pub taken : (k : ℕ) → Contains ks k → (row : RowData) × (Contains rows row × AsStrongAs (type_of_id I row.ty) ty × (row.env ≡ k))
  pub each : (row : RowData) → Contains rows row → AsStrongAs (type_of_id I row.ty) ty → Contains ks row.env

-- so for each type of a list
pub data AreOfEach (I : InternerData) (rows : List RowData) : List TypeTree → List (List ℕ) → Type 0 where
  of_none : AreOfEach I rows [] []
  of_one : {ty : TypeTree} {types : List TypeTree} {ks : List ℕ} {slots : List (List ℕ)} → AreOfStrong I rows ty ks → AreOfEach I rows types slots → AreOfEach I rows (ty ∷ types) (ks ∷ slots)

-- slots for the types of a set were added
pub record AreSlotsAdded (I : InternerData) (rows : List RowData) (set : List TypeTree) (old new : List (List ℕ)) : Type 0 where
  pub added : List (List ℕ)
  pub is : new ≡ old ++ added
  pub each : AreOfEach I rows set added

-- the rows of the entries that count at the point
pub record AreRowsAt (p : ProblemData) (C : List EntryData) (u : ℕ) (I : InternerData) (rows : List RowData) : Type 0 where
  pub taken : (row : RowData) → Contains rows row → (row.point ≡ u) × ((place : ℕ) × IsAt p C place (entry_of I row))
  pub each : (place : ℕ) (e : EntryData) → IsAt p C place e → e.point ≡ u → (row : RowData) × (Contains rows row × (entry_of I row ≡ e))

-- those of the rows that are at the point
abbrev pub AreAtPoint : List RowData → ℕ → List RowData → Type 0
AreAtPoint table u rows = (row : RowData) → Contains rows row ↔ (Contains table row × (row.point ≡ u))

-- the rows are those of the entries that count
pub record AreTableRows (p : ProblemData) (C : List EntryData) (I : InternerData) (table : List RowData) : Type 0 where
  pub taken : (row : RowData) → Contains table row → (place : ℕ) × IsAt p C place (entry_of I row)
  pub each : (place : ℕ) (e : EntryData) → IsAt p C place e → (row : RowData) × (Contains table row × (entry_of I row ≡ e))

-- slots for the types that are asked of arguments, by argument and then in the set's order
pub data AreOfArguments (I : InternerData) (table : List RowData) : List ℕ → Env → List (List ℕ) → Type 0 where
  no_arguments : AreOfArguments I table [] [] []
  one_argument : {u : ℕ} {us : List ℕ} {s : List TypeTree} {ss : Env} {rows : List RowData} {first slots : List (List ℕ)}
      → AreAtPoint table u rows → AreOfEach I rows s first → AreOfArguments I table us ss slots → AreOfArguments I table (u ∷ us) (s ∷ ss) (first ++ slots)

-- The rows stand for the entries of C that count, in the order of points, and the void rows for the pairs of V, in their order.
pub record AreNumbered (p : ProblemData) (C : List EntryData) (V : List VoidData) (I : InternerData) (table : List RowData) (void : List VoidRowData) : Type 0 where
  pub rows : AreTableRows p C I table
  pub in_use : All (IsRow I) table
  pub order : IsNonDecreasingBy (λ (r : RowData). r.point) table
  pub pairs : map (void_of I) void ≡ V
  pub envs : All (λ (v : VoidRowData). v.env < length I.envs) void
