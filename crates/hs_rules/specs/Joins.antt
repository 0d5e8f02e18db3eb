-- Environments joined slot by slot. What is chosen for slots stands in their order, whichever was joined first.
--     FillsBy                  a place is one of them
--     PartialData              a joined environment by number, with the places that it comes from
--     IsPlaced, ArePlaced      candidates' environments are for n parameters
--     AreMasksOf, AreOwnMasks  masks of candidates' environments; of joined ones, where they have some
--     IsUnited                 the mask of a union of one of each
--     MetAre, MetForSlot       masks that were met are those of joined environments
--     HasLesserPlaces, AreAscending   a choice of places comes before another one; each before those behind it
--     ComeBefore               each choice comes before these places
--     AreAsLong, HaveRoom      they are for the same number of slots; for at least so many
--     HaveSameBefore, IsRun    they have the same places before that of a slot; where those side by side end
--     IsMade, IsAmongJoined    what comes of one joined environment and a candidate for one more slot
--     AreGathered, JoinsOne    what is joined so far; that what comes of one candidate is joined to it
--     with_choice              a joined environment with one more place, behind so many others
--     HaveSole                 joined environments ask for what a slot's only candidate asks for
--     SoleAsks, IsWithSole     what slots' only candidates ask for; an environment with that
--     IsJoined, AreJoined      environments that slots lead to, and all of them where they are whole
--     LeadBySole               so it is for some slots, from one that asks for what only candidates ask for
use Rattle.std.specs.Prelude.{◌≡◌, ◌≢◌, ℕ, ◌<◌, ◌≤◌, Bool, IsTrue, List, [], ◌∷◌, length, take, slice_get, slice_index_or, Option, Some, AllPairs, Contains, ◌⊎◌, ◌↔◌}
use Rattle.hs_table.specs.Types.{TypeTree}
use Rattle.hs_table.specs.Entries.{Env, EntryData, Has, IsEnv}
use Rattle.hs_types.specs.Interned.{InternerData, env_of_id, IsUnionEnv}
use Rattle.std.specs.Int.Bits.{bit_or}
use Rattle.std.specs.List.{insert}
use Rattle.hs_replica.specs.Masks.{IsMask}
use Rattle.hs_rules.specs.Order.{chosen_places, IsLess, IsNoGreater}
use Rattle.hs_rules.specs.Slots.{FilledData, Picked, IsJoin}

pub record PartialData : Type 0 where
  pub env : ℕ
  pub args : List (ℕ × ℕ)

pub record FillsBy (log : List EntryData) (f : FilledData) (place : ℕ) (e : EntryData) : Type 0 where
  pub among : Contains f.places place
  pub at : slice_get log place ≡ Some e

pub record IsPlaced (log : List EntryData) (n place : ℕ) : Type 0 where
  pub entry : EntryData
  pub at : slice_get log place ≡ Some entry
  pub env : IsEnv n entry.env

abbrev pub ArePlaced : List EntryData → ℕ → FilledData → Type 0
ArePlaced log n f = (place : ℕ) → Contains f.places place → IsPlaced log n place

-- a number that was seen is that of an environment of the list
abbrev pub SeenAre : List ℕ → List PartialData → Type 0
SeenAre seen list = (env : ℕ) → Contains seen env → (x : PartialData) × Contains list x × (x.env ≡ env)

-- each mask is that of the environment of a candidate
pub record IsMaskAt (ids : InternerData) (log : List EntryData) (place mask : ℕ) : Type 0 where
  pub entry : EntryData
  pub at : slice_get log place ≡ Some entry
  pub is : IsMask ids (length entry.env) entry.env mask

abbrev pub AreMasksOf : InternerData → List EntryData → FilledData → List ℕ → Type 0
AreMasksOf ids log f masks = (k : ℕ) → k < length masks → IsMaskAt ids log (slice_index_or f.places k 0) (slice_index_or masks k 0)

-- each mask that is there is that of the environment
abbrev pub AreOwnMasks : InternerData → List PartialData → List (Option ℕ) → Type 0
AreOwnMasks ids list owns = (k : ℕ) (x : PartialData) (mask : ℕ) → slice_get list k ≡ Some x → slice_get owns k ≡ Some (Some mask) → IsMask ids (length (env_of_id ids x.env)) (env_of_id ids x.env) mask

-- the mask of the union of an environment with the first mask and the candidate of this number
pub record IsUnited (own : Option ℕ) (masks : List ℕ) (number mask : ℕ) : Type 0 where
  pub first : ℕ
  pub own_is : own ≡ Some first
  pub within : number < length masks
  pub is : mask ≡ bit_or first (slice_index_or masks number 0)

-- a mask that was met is that of an environment of the list, for n parameters
abbrev pub MetAre : InternerData → ℕ → List ℕ → List PartialData → Type 0
MetAre ids n met list = (mask : ℕ) → Contains met mask → (x : PartialData) × Contains list x × (x.env < length ids.envs) × IsMask ids n (env_of_id ids x.env) mask

-- so it is for as many parameters as the candidates for a slot have
abbrev pub MetForSlot : InternerData → List EntryData → FilledData → List ℕ → List PartialData → Type 0
MetForSlot ids log f met list = (place : ℕ) (e : EntryData) → FillsBy log f place e → MetAre ids (length e.env) met list

abbrev pub HasLesserPlaces : PartialData → PartialData → Type 0
HasLesserPlaces x y = IsLess (chosen_places x.args) (chosen_places y.args)

abbrev pub AreAscending : List PartialData → Type 0
AreAscending list = AllPairs HasLesserPlaces list

abbrev pub ComeBefore : List PartialData → List ℕ → Type 0
ComeBefore list places = (x : PartialData) → Contains list x → IsLess (chosen_places x.args) places

abbrev pub AreAsLong : List PartialData → Type 0
AreAsLong list = (x y : PartialData) → Contains list x → Contains list y → length x.args ≡ length y.args

abbrev pub HaveRoom : ℕ → List PartialData → Type 0
HaveRoom at list = (x : PartialData) → Contains list x → at ≤ length x.args

-- the choices have the same places before that of a slot
abbrev pub HaveSameBefore : ℕ → List PartialData → Type 0
HaveSameBefore at list = (x y : PartialData) → Contains list x → Contains list y → take at (chosen_places x.args) ≡ take at (chosen_places y.args)

-- those from `start` on that have the same places as the first of them before that of a slot, up to the first that has others
pub record IsRun (list : List PartialData) (start at end : ℕ) : Type 0 where
  pub more : start < end
  pub within : end ≤ length list
  pub same : (j : ℕ) (x y : PartialData) → start ≤ j → j < end → slice_get list start ≡ Some x → slice_get list j ≡ Some y → take at (chosen_places y.args) ≡ take at (chosen_places x.args)
  pub ends : (x y : PartialData) → slice_get list start ≡ Some x → slice_get list end ≡ Some y → take at (chosen_places y.args) ≢ take at (chosen_places x.args)

-- The new environment comes of an old one, whose number is read in `old`, and a candidate, whose place stands behind `at` others.
pub record IsMade (old new : InternerData) (log : List EntryData) (from : PartialData) (f : FilledData) (at : ℕ) (x : PartialData) : Type 0 where
  pub place : ℕ
  pub entry : EntryData
  pub fills : FillsBy log f place entry
  pub args : x.args ≡ insert from.args at (f.arg, place)
  pub within : x.env < length new.envs
  pub union : IsUnionEnv (env_of_id old from.env) entry.env (env_of_id new x.env)

-- so it is for some of these
pub record IsMadeOf (old new : InternerData) (log : List EntryData) (partials : List PartialData) (f : FilledData) (at : ℕ) (x : PartialData) : Type 0 where
  pub from : PartialData
  pub among : Contains partials from
  pub made : IsMade old new log from f at x

-- their numbers are known, and they are as long as the candidates' environments
abbrev pub CanFill : InternerData → List EntryData → List PartialData → FilledData → Type 0
CanFill ids log partials f = (x : PartialData) → Contains partials x → (x.env < length ids.envs) × ArePlaced log (length (env_of_id ids x.env)) f

-- the environment that comes of the old one and the entry at the place is there, by no greater choice
pub record IsAmongJoined (old new : InternerData) (from : PartialData) (at place : ℕ) (entry : EntryData) (found : List PartialData) : Type 0 where
  pub item : PartialData
  pub there : Contains found item
  pub within : item.env < length new.envs
  pub union : IsUnionEnv (env_of_id old from.env) entry.env (env_of_id new item.env)
  pub least : IsNoGreater (chosen_places item.args) (insert (chosen_places from.args) at place)

-- environments that are joined so far, with what is known of them at a look
pub record AreGathered (ids : InternerData) (n : ℕ) (seen met : List ℕ) (list : List PartialData) : Type 0 where
  pub known : SeenAre seen list
  pub masked : MetAre ids n met list
  pub ascends : AreAscending list

abbrev pub only_place : ℕ → ℕ → FilledData
only_place arg place = record { arg = arg; places = place ∷ [] }

-- what comes of the old environment and the entry at the place is joined, and nothing else
pub record JoinsOne (old new : InternerData) (log : List EntryData) (from : PartialData) (arg at place : ℕ) (before after : List PartialData) : Type 0 where
  pub keeps : (x : PartialData) → Contains before x → Contains after x
  pub made : (x : PartialData) → Contains after x → Contains before x ⊎ IsMade old new log from (only_place arg place) at x
  pub there : (e : EntryData) → slice_get log place ≡ Some e → IsAmongJoined old new from at place e after

abbrev pub with_choice : ℕ → ℕ → ℕ → PartialData → PartialData
with_choice arg at place x = record { env = x.env; args = insert x.args at (arg, place) }

-- where the slot has only one candidate, nothing comes to these environments by it
abbrev pub HaveSole : InternerData → List EntryData → List PartialData → FilledData → Type 0
HaveSole ids log partials f = (x : PartialData) → Contains partials x → (place : ℕ) (e : EntryData) → f.places ≡ place ∷ [] → slice_get log place ≡ Some e
    → IsUnionEnv (env_of_id ids x.env) e.env (env_of_id ids x.env)

-- the only candidate of one of the slots asks for the type
pub record SoleAsks (log : List EntryData) (fs : List FilledData) (j : ℕ) (a : TypeTree) : Type 0 where
  pub slot : FilledData
  pub among : Contains fs slot
  pub place : ℕ
  pub alone : slot.places ≡ place ∷ []
  pub entry : EntryData
  pub at : slice_get log place ≡ Some entry
  pub has : Has entry.env j a

-- the environment asks for just what `own` and the only candidates of slots ask for
pub record IsWithSole (log : List EntryData) (n : ℕ) (own : Env) (fs : List FilledData) (env : Env) : Type 0 where
  pub is_env : IsEnv n env
  pub has : (j : ℕ) (a : TypeTree) → Has env j a ↔ (Has own j a ⊎ SoleAsks log fs j a)

pub record IsJoined (ids : InternerData) (log : List EntryData) (n : ℕ) (own : Env) (fs : List FilledData) (x : PartialData) : Type 0 where
  pub within : x.env < length ids.envs
  pub chosen : List EntryData
  pub picked : Picked (λ f. f.arg) (FillsBy log) fs x.args chosen
  pub join : IsJoin n own chosen (env_of_id ids x.env)

-- what the choice leads to is there, by no greater one
pub record HasJoined (ids : InternerData) (n : ℕ) (own : Env) (args : List (ℕ × ℕ)) (chosen : List EntryData) (found : List PartialData) : Type 0 where
  pub item : PartialData
  pub there : Contains found item
  pub join : IsJoin n own chosen (env_of_id ids item.env)
  pub least : IsNoGreater (chosen_places item.args) (chosen_places args)

pub record AreJoined (ids : InternerData) (log : List EntryData) (n : ℕ) (own : Env) (fs : List FilledData) (whole : Bool) (found : List PartialData) : Type 0 where
  pub sound : (x : PartialData) → Contains found x → IsJoined ids log n own fs x
  pub all : IsTrue whole → (args : List (ℕ × ℕ)) (chosen : List EntryData) → Picked (λ f. f.arg) (FillsBy log) fs args chosen → HasJoined ids n own args chosen found
  pub ascending : AreAscending found

-- these slots lead to the environments from one that asks for what the only candidates of all slots ask for
pub record LeadBySole (ids : InternerData) (log : List EntryData) (n : ℕ) (own : Env) (all fs : List FilledData) (whole : Bool) (found : List PartialData) : Type 0 where
  pub base : Env
  pub asks : IsWithSole log n own all base
  pub joined : AreJoined ids log n base fs whole found
