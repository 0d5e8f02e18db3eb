-- What the types of a head lead to.
--     SearchData, seek  where conclusions are sought
--     HeadData          a type of the head in numbers, with where it comes from and what it asks for
--     HasKnownNumbers   its numbers are known, and it has a set for each argument
--     IsAlike           they ask for the same, of the parameters and of the arguments
--     HaveEnvs          entries at the arguments have environments for n parameters
--     RowsAre           the rows of what is found but for the first few; each row is found once
--     HasRowAt          the row is that of what is found at the place
--     HasNoGreater      the row is there, by no greater support
--     Lowers            what was found is there, by no greater supports
--     IsRowOf, HasRow   rows for joined environments
--     slots_of_head     the slots for the sets of the head's type
--     HeadLeadsTo       the head's type leads to the environment, by these arguments
--     IsDeducedBy       what is found comes of the head's type
--     HasEnvFound       the environment is found, with the point and the type, by no greater support
use Rattle.std.specs.Prelude.{◌≡◌, ◌≢◌, ℕ, ◌<◌, List, length, map, take, drop, slice_get, Option, Some, All, AllPairs, Contains}
use Rattle.hs_table.specs.declared.support.HeadBy.{HeadBy}
use Rattle.hs_table.specs.Entries.{Env, EntryData, IsEnv}
use Rattle.hs_table.specs.Follows.{Support, premises}
use Rattle.hs_types.specs.Interned.{InternerData, set_of_id, env_of_id, RowData}
use Rattle.hs_rules.specs.declared.search.Fixed.{Fixed}
use Rattle.hs_rules.specs.declared.joining.TheConstants.{FEW}
use Rattle.hs_rules.specs.declared.search.Search.{Search}
use Rattle.hs_rules.specs.Order.{IsNoGreater}
use Rattle.hs_rules.specs.Conclusions.{DeducedData}
use Rattle.hs_rules.specs.Slots.{SlotData, slots, Concludes}
use Rattle.hs_rules.specs.Filling.{fixed_of}
use Rattle.hs_rules.specs.Joins.{PartialData}

pub record SearchData : Type 0 where
  pub point : ℕ
  pub args : List ℕ
  pub limit : ℕ
  pub fixed : Option Fixed

abbrev pub seek : Search → SearchData
seek s = record { point = s.point; args = s.args.now; limit = s.limit; fixed = s.fixed }

pub record HeadData : Type 0 where
  pub by : HeadBy
  pub own : ℕ
  pub sets : List ℕ
  pub rest : ℕ

pub record HasKnownNumbers (ids : InternerData) (args : List ℕ) (h : HeadData) : Type 0 where
  pub own : h.own < length ids.envs
  pub sets : All (λ s. s < length ids.sets) h.sets
  pub rest : h.rest < length ids.types
  pub long : length h.sets ≡ length args
  pub is_env : IsEnv (length (env_of_id ids h.own)) (env_of_id ids h.own)

pub record IsAlike (h g : HeadData) : Type 0 where
  pub own : h.own ≡ g.own
  pub sets : h.sets ≡ g.sets

abbrev pub HaveEnvs : List EntryData → List ℕ → ℕ → Type 0
HaveEnvs E args n = (e : EntryData) → Contains E e → Contains args e.point → IsEnv n e.env

pub record RowsAre (rows : List RowData) (found : List DeducedData) : Type 0 where
  pub same : rows ≡ drop FEW (map (λ d. d.row) found)
  pub once : AllPairs (λ a b. a ≢ b) (map (λ d. d.row) found)

pub record HasRowAt (found : List DeducedData) (place : ℕ) (row : RowData) : Type 0 where
  pub item : DeducedData
  pub at : slice_get found place ≡ Some item
  pub is : item.row ≡ row

pub record HasNoGreater (found : List DeducedData) (row : RowData) (s : Support) : Type 0 where
  pub item : DeducedData
  pub there : Contains found item
  pub is : item.row ≡ row
  pub least : IsNoGreater (premises item.support) (premises s)

abbrev pub Lowers : List DeducedData → List DeducedData → Type 0
Lowers old new = (d : DeducedData) → Contains old d → HasNoGreater new d.row d.support

-- a row of one of these environments
pub record IsRowOf (point : ℕ) (h : HeadData) (partials : List PartialData) (d : DeducedData) : Type 0 where
  pub from : PartialData
  pub among : Contains partials from
  pub is : d ≡ record { row = record { point = point; env = from.env; ty = h.rest }; support = record { head = h.by; args = from.args } }

-- a row of this environment is there, by no greater support
abbrev pub HasRow : ℕ → HeadData → PartialData → List DeducedData → Type 0
HasRow point h x found = HasNoGreater found (record { point = point; env = x.env; ty = h.rest }) (record { head = h.by; args = x.args })

abbrev pub slots_of_head : InternerData → List ℕ → HeadData → List SlotData
slots_of_head ids args h = slots 0 args (map (set_of_id ids) h.sets)

abbrev pub HeadLeadsTo : InternerData → List EntryData → SearchData → HeadData → List (ℕ × ℕ) → Env → Type 0
HeadLeadsTo ids log s h args env =
    Concludes (take s.limit log) (fixed_of log s.fixed) (length (env_of_id ids h.own)) s.args (env_of_id ids h.own) (map (set_of_id ids) h.sets) args env

pub record IsDeducedBy (old new : InternerData) (log : List EntryData) (s : SearchData) (h : HeadData) (d : DeducedData) : Type 0 where
  pub point : d.row.point ≡ s.point
  pub ty : d.row.ty ≡ h.rest
  pub within : d.row.env < length new.envs
  pub by : d.support.head ≡ h.by
  pub leads : HeadLeadsTo old log s h d.support.args (env_of_id new d.row.env)

pub record HasEnvFound (ids : InternerData) (s : SearchData) (h : HeadData) (args : List (ℕ × ℕ)) (env : Env) (found : List DeducedData) : Type 0 where
  pub item : DeducedData
  pub there : Contains found item
  pub point : item.row.point ≡ s.point
  pub ty : item.row.ty ≡ h.rest
  pub within : item.row.env < length ids.envs
  pub is : env_of_id ids item.row.env ≡ env
  pub least : IsNoGreater (premises item.support) (premises (record { head = h.by; args = args }))
