-- How places are kept by what they answer.
--     list_at lists k  the list of this key, by `row_at` or `keyed_at`
--     question ids k   what the key asks for
--     reach types asked n q so many places, from the first, are listed by the question; by types and by what entries ask for, when these are wanted of a point
--     IsIndex          the lists have just the places that answer what their keys ask for, as far as these are reached
--     Gains, ListsAll  lists that gain a place
use Rattle.std.specs.Prelude.{◌≡◌, ◌≢◌, ◌^◌, AllPairs, Some, slice_get, slice_index_or, ℕ, ◌<◌, ◌≤◌, List, [], length, map, All, Contains, ◌⊎◌}
use Rattle.std.specs.Option.{option_map_or}
use Rattle.std.specs.List.Sorted.{IsStrictlyIncreasing}
use Rattle.indexmap.specs.IndexMap.{IndexMap, get}
use Rattle.smallvec.specs.SmallVec.{SmallVec}
use Rattle.hs_table.specs.Types.{TypeTree}
use Rattle.hs_table.specs.Entries.{Env, EntryData, Has}
use Rattle.hs_types.specs.Interned.{InternerData, RowData, type_of_id, env_of_id, entry_of, IsRow}
use Rattle.hs_replica.specs.declared.lists.Lists.{Lists}
use Rattle.hs_replica.specs.declared.key.Key.{Key}
use Rattle.hs_replica.specs.declared.key.Key.TheVariants.{At, Typed, Asking, Taking}
use Rattle.hs_replica.specs.contracts.key.KeyPartialEq.TheImpl.{eq-value}
use Rattle.hs_replica.specs.Places.{Question, here, typed, asks, takes, IsState, HasArgumentType, Answers}

-- the entries of these rows
abbrev pub log_of : InternerData → List RowData → List EntryData
log_of ids rows = map (entry_of ids) rows

-- the list of this number, and the list of this key in a table, empty where there is none
abbrev pub row_at : List (SmallVec ℕ) → ℕ → List ℕ
row_at rows p = option_map_or (λ (v : SmallVec ℕ). v.items) (slice_get rows p) []

abbrev pub keyed_at : {S : Type 0} → IndexMap Key (SmallVec ℕ) S → Key → List ℕ
keyed_at keyed k = option_map_or (λ (v : SmallVec ℕ). v.items) (get eq-value.it keyed k) []

-- the list of this key
abbrev pub list_at : Lists → Key → List ℕ
list_at lists (At p) = row_at lists.at.items p
list_at lists (Typed p t) = keyed_at lists.keyed (Typed p t)
list_at lists (Asking p j t) = keyed_at lists.keyed (Asking p j t)
list_at lists (Taking p j t) = keyed_at lists.keyed (Taking p j t)

abbrev pub question : InternerData → Key → Question
question ids (At p) = here p
question ids (Typed p t) = typed p (type_of_id ids t)
question ids (Asking p j t) = asks p j (type_of_id ids t)
question ids (Taking p j t) = takes p j (type_of_id ids t)

-- it is about the types of entries at the point
abbrev pub IsByType : ℕ → Key → Type 0
IsByType point (At p) = ⊥
IsByType point (Typed p t) = p ≡ point
IsByType point (Asking p j t) = ⊥
IsByType point (Taking p j t) = p ≡ point

-- n places, or number p of `by_type` or `asked` where it is about the types of entries at p or what they ask for
abbrev pub reach : List ℕ → List ℕ → ℕ → Question → ℕ
reach by_type asked n (here p) = n
reach by_type asked n (typed p a) = slice_index_or by_type p 0
reach by_type asked n (asks p j a) = slice_index_or asked p 0
reach by_type asked n (takes p j a) = slice_index_or by_type p 0

-- its type has a number
abbrev pub IsKey : InternerData → Key → Type 0
IsKey ids (At p) = Unit {0}
IsKey ids (Typed p t) = t < length ids.types
IsKey ids (Asking p j t) = t < length ids.types
IsKey ids (Taking p j t) = t < length ids.types

-- an ascending list of numbers up to the place
pub record RisesTo (place : ℕ) (xs : List ℕ) : Type 0 where
  pub ascending : IsStrictlyIncreasing xs
  pub below : All (λ x. x ≤ place) xs

-- some key asks for this, and has the place in its list
pub record IsListed (ids : InternerData) (list : Key → List ℕ) (place : ℕ) (q : Question) : Type 0 where
  pub key : Key
  pub known : IsKey ids key
  pub for : question ids key ≡ q
  pub among : Contains (list key) place

-- The first place that isn't reached may stand in some of the lists already: in those that got it before memory was refused.
pub record IsIndex (ids : InternerData) (log : List EntryData) (reached : Question → ℕ) (list : Key → List ℕ) : Type 0 where
  pub known : (k : Key) (i : ℕ) → Contains (list k) i → IsKey ids k
  pub sound : (k : Key) (i : ℕ) → Contains (list k) i → Answers log i (question ids k)
  pub complete : (i : ℕ) (q : Question) → i < reached q → Answers log i q → IsListed ids list i q
  pub within : (q : Question) (p : ℕ) → reached q ≤ reached (here p)
  pub rises : (k : Key) → RisesTo (reached (question ids k)) (list k)

-- what was an index of the first n entries becomes one of the first m, and stays as it was as to their types and what they ask for
abbrev pub KeepsIndex : List RowData → ℕ → ℕ → (Key → List ℕ) → (Key → List ℕ) → Type 0
KeepsIndex rows n m old new = (ids : InternerData) (by_type asked : List ℕ) → IsIndex ids (log_of ids rows) (reach by_type asked n) old → IsIndex ids (log_of ids rows) (reach by_type asked m) new

-- the lists are an index that reaches as these numbers say: of types, or of what entries ask for, with some others for the rest
abbrev pub IsTypedIndex : InternerData → List EntryData → ℕ → List ℕ → (Key → List ℕ) → Type 0
IsTypedIndex ids log n by_type list = (asked : List ℕ) × IsIndex ids log (reach by_type asked n) list

abbrev pub IsAskedIndex : InternerData → List EntryData → ℕ → List ℕ → (Key → List ℕ) → Type 0
IsAskedIndex ids log n asked list = (by_type : List ℕ) × IsIndex ids log (reach by_type asked n) list

-- what was such an index reaches as the later numbers say, and stays as it was for the rest
abbrev pub KeepsTyped : InternerData → List EntryData → ℕ → List ℕ → List ℕ → (Key → List ℕ) → (Key → List ℕ) → Type 0
KeepsTyped ids log n by_type later old new = (asked : List ℕ) → IsIndex ids log (reach by_type asked n) old → IsIndex ids log (reach later asked n) new

abbrev pub KeepsAsked : InternerData → List EntryData → ℕ → List ℕ → List ℕ → (Key → List ℕ) → (Key → List ℕ) → Type 0
KeepsAsked ids log n asked later old new = (by_type : List ℕ) → IsIndex ids log (reach by_type asked n) old → IsIndex ids log (reach by_type later n) new

-- by types, at the point of the entry at this place, the lists reach just up to it
pub record IsNextTyped (ids : InternerData) (log : List EntryData) (place : ℕ) (list : Key → List ℕ) : Type 0 where
  pub reached : Question → ℕ
  pub index : IsIndex ids log reached list
  pub upto : (e : EntryData) → slice_get log place ≡ Some e → (a : TypeTree) → reached (typed e.point a) ≡ place

-- all that the first n entries ask for at the point is listed
abbrev pub HasAsked : InternerData → List EntryData → ℕ → ℕ → (Key → List ℕ) → Type 0
HasAsked ids log n point list = (i j : ℕ) (a : TypeTree) → i < n → Answers log i (asks point j a) → IsListed ids list i (asks point j a)

-- the list gains nothing but the place
pub record AddsTo (place : ℕ) (old new : List ℕ) : Type 0 where
  pub only : (i : ℕ) → Contains new i → Contains old i ⊎ (i ≡ place)
  pub keeps : (i : ℕ) → Contains old i → Contains new i
  pub rises : RisesTo place old → RisesTo place new

-- the list of this key gains nothing but the place, and the others stay
pub record AddsAt {K : Type 0} (key : K) (place : ℕ) (old new : K → List ℕ) : Type 0 where
  pub only : (k : K) (i : ℕ) → Contains (new k) i → Contains (old k) i ⊎ ((i ≡ place) × (k ≡ key))
  pub keeps : (k : K) (i : ℕ) → Contains (old k) i → Contains (new k) i
  pub rises : (k : K) (n : ℕ) → (k ≡ key → n ≡ place) → RisesTo n (old k) → RisesTo n (new k)

-- the lists gain nothing but the place, under keys that ask for what P holds of
pub record Gains (ids : InternerData) (P : Question → Type 0) (place : ℕ) (old new : Key → List ℕ) : Type 0 where
  pub only : (k : Key) (i : ℕ) → Contains (new k) i → Contains (old k) i ⊎ ((i ≡ place) × (IsKey ids k × P (question ids k)))
  pub keeps : (k : Key) (i : ℕ) → Contains (old k) i → Contains (new k) i
  pub rises : (k : Key) (n : ℕ) → (P (question ids k) → n ≡ place) → RisesTo n (old k) → RisesTo n (new k)

-- all that P holds of is listed
abbrev pub ListsAll : InternerData → (Question → Type 0) → ℕ → (Key → List ℕ) → Type 0
ListsAll ids P place list = (q : Question) → P q → IsListed ids list place q

-- the entry at this place answers it, and it is about types
abbrev pub OfTypes : List EntryData → ℕ → Question → Type 0
OfTypes log place (here p) = ⊥
OfTypes log place (typed p a) = Answers log place (typed p a)
OfTypes log place (asks p j a) = ⊥
OfTypes log place (takes p j a) = Answers log place (takes p j a)

-- types of this set are asked for at parameter j, of an environment at any
abbrev pub AsksAt : ℕ → ℕ → List TypeTree → Question → Type 0
AsksAt point j s (asks p i a) = (p ≡ point) × ((i ≡ j) × Contains s a)
AsksAt point j s q = ⊥

abbrev pub AsksIn : ℕ → Env → Question → Type 0
AsksIn point env (asks p j a) = (p ≡ point) × Has env j a
AsksIn point env q = ⊥

-- types of this set are taken as argument j, of the sets of a type as any
abbrev pub TakesAt : ℕ → ℕ → List TypeTree → Question → Type 0
TakesAt point j s (takes p i a) = (p ≡ point) × ((i ≡ j) × Contains s a)
TakesAt point j s q = ⊥

abbrev pub TakesBy : ℕ → TypeTree → Question → Type 0
TakesBy point ty (takes p j a) = (p ≡ point) × HasArgumentType ty j a
TakesBy point ty q = ⊥

-- the list of the row's point and type begins with the place
abbrev pub BeginsTyped : RowData → ℕ → (Key → List ℕ) → Type 0
BeginsTyped row place list = slice_get (list (Typed row.point row.ty)) 0 ≡ Some place

-- what the row's type takes, where the list of its point and type begins with the place
abbrev pub TakesFirst : InternerData → RowData → (Key → List ℕ) → ℕ → Question → Type 0
TakesFirst ids row list place q = BeginsTyped row place list × TakesBy row.point (type_of_id ids row.ty) q

-- what the row's environment asks for, where its type is a state
abbrev pub AsksBy : InternerData → RowData → Question → Type 0
AsksBy ids row q = IsState (type_of_id ids row.ty) × AsksIn row.point (env_of_id ids row.env) q

-- what a replica keeps: room for so many rows, and the lists of the first of them
pub record IsKept (ids : InternerData) (rows : List RowData) (room reserved indexed : ℕ) (by_type asked : List ℕ) (list : Key → List ℕ) : Type 0 where
  pub known : All (IsRow ids) rows
  pub distinct : AllPairs (λ a b. a ≢ b) (log_of ids rows)
  pub short : length rows < 2 ^ 32
  pub fits : reserved ≤ room
  pub within : indexed ≤ length rows
  pub index : IsIndex ids (log_of ids rows) (reach by_type asked indexed) list
