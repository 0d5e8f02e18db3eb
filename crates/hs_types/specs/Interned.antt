-- Types, sets of types and environments by number: a number is a place in a list.
--     InternerData                       the types, sets and environments that have numbers
--     type_of_id, set_of_id, env_of_id   what a number stands for
--     RowData, IsRow, entry_of           a row stands for an entry: a point, the number of an environment and that of a type
--     IsView                             what a type is, in numbers
--     IsInterner                         no two numbers stand for one thing, and all sets are strictly ascending
--     Grows old new                      the numbers of old stand in new for what they stood for
--     IsSetOf, IsUnion, IsUnionEnv       the set with these members; unions of sets, and of environments set by set
use Rattle.std.specs.Prelude.{◌≡◌, refl, ℕ, ◌<◌, List, [], length, slice_get, slice_index_or, Some, Contains, ◌⊎◌, ◌↔◌}
use Rattle.std.specs.Coded.{Coded, code_by, coded×, coded_list}
use Rattle.hs_table.specs.Types.{TypeTree, coded_type, state, arrow, IsSet}
use Rattle.hs_table.specs.Entries.{Env, EntryData, set_at}
use Rattle.hs_types.specs.declared.ids.Row.{Row}
use Rattle.hs_types.specs.declared.ids.View.{View}
use Rattle.hs_types.specs.declared.ids.View.TheVariants.{State, Arrow}

pub record InternerData : Type 0 where
  pub types : List TypeTree
  pub sets : List (List TypeTree)
  pub envs : List Env

abbrev pub coded_interner : Coded InternerData
coded_interner =
    code_by (List TypeTree × (List (List TypeTree) × List Env)) (coded× (coded_list coded_type) (coded× (coded_list (coded_list coded_type)) (coded_list (coded_list (coded_list coded_type)))))
    (λ i. (i.types, (i.sets, i.envs))) (λ p. record { types = p.0; sets = p.1.0; envs = p.1.1 }) (λ _. refl)

abbrev pub type_of_id : InternerData → ℕ → TypeTree
type_of_id I t = slice_index_or I.types t (state 0)

abbrev pub set_of_id : InternerData → ℕ → List TypeTree
set_of_id I s = slice_index_or I.sets s []

abbrev pub env_of_id : InternerData → ℕ → Env
env_of_id I e = slice_index_or I.envs e []

-- what contracts see of a row: its three numbers
abbrev pub RowData : Type 0
RowData = Row

abbrev pub IsRow : InternerData → RowData → Type 0
IsRow I row = (row.env < length I.envs) × (row.ty < length I.types)

abbrev pub entry_of : InternerData → RowData → EntryData
entry_of I row = record { point = row.point; env = env_of_id I row.env; ty = type_of_id I row.ty }

abbrev pub IsView : InternerData → ℕ → View → Type 0
IsView I t (State q) = type_of_id I t ≡ state q
IsView I t (Arrow s r) = (s < length I.sets) × (r < length I.types) × (type_of_id I t ≡ arrow (set_of_id I s) (type_of_id I r))

-- no item stands at two places
abbrev pub IsWithoutRepeats : {X : Type 0} → List X → Type 0
IsWithoutRepeats {X} xs = (i j : ℕ) (x : X) → slice_get xs i ≡ Some x → slice_get xs j ≡ Some x → i ≡ j

pub record IsInterner (I : InternerData) : Type 0 where
  pub types : IsWithoutRepeats I.types
  pub sets : IsWithoutRepeats I.sets
  pub envs : IsWithoutRepeats I.envs
  pub set_ascends : (s : ℕ) → IsSet (set_of_id I s)
  pub env_ascends : (e j : ℕ) → IsSet (set_at (env_of_id I e) j)
  pub type_ascends : (t : ℕ) (s : List TypeTree) (r : TypeTree) → type_of_id I t ≡ arrow s r → IsSet s

-- each item of xs stands in ys at its place
abbrev pub Begins : {X : Type 0} → List X → List X → Type 0
Begins {X} xs ys = (i : ℕ) (x : X) → slice_get xs i ≡ Some x → slice_get ys i ≡ Some x

pub record Grows (old new : InternerData) : Type 0 where
  pub types : Begins old.types new.types
  pub sets : Begins old.sets new.sets
  pub envs : Begins old.envs new.envs

pub record IsSetOf (members set : List TypeTree) : Type 0 where
  pub ascends : IsSet set
  pub exact : (a : TypeTree) → Contains set a ↔ Contains members a

pub record IsUnion (s r union : List TypeTree) : Type 0 where
  pub ascends : IsSet union
  pub exact : (a : TypeTree) → Contains union a ↔ (Contains s a ⊎ Contains r a)

-- set by set, of environments of one length
pub record IsUnionEnv (e f union : Env) : Type 0 where
  pub long : length union ≡ length e
  pub sets : (j : ℕ) → IsUnion (set_at e j) (set_at f j) (set_at union j)
