-- Types that are split at the arguments, by numbers; only private contracts cite it.
--     IsHeadWithin params head      a parameter at the head is one of so many
--     IsSplitAt                     the sets in front of a type, so many of them, and what is left of it
--     IsSplitOf                     so, with the environment that the head asks for
--     GainsSplit                    what a type is split to was added, where it has so many sets, and nothing else
--     AreSplits                     just the types of a list that have so many sets are split
use Rattle.std.specs.Prelude.{◌≡◌, ℕ, ◌<◌, List, length, map, Contains, All, ◌⊎◌}
use Rattle.hs_scheme.specs.declared.term.Head.{Head}
use Rattle.hs_scheme.specs.declared.term.Head.TheVariants.{Var, Nt, Tm}
use Rattle.hs_table.specs.Types.{TypeTree, arrows}
use Rattle.hs_table.specs.Entries.{Env}
use Rattle.hs_types.specs.Interned.{InternerData, type_of_id, set_of_id, env_of_id, Grows}
use Rattle.hs_choices.specs.Slots.{IsHeadEnv}
use Rattle.hs_heads.specs.HeadTypes.{HeadTypeData}

abbrev pub IsHeadWithin : ℕ → Head → Type 0
IsHeadWithin params (Var x) = x < params
IsHeadWithin params (Nt f) = Unit {0}
IsHeadWithin params (Tm a) = Unit {0}

pub record IsSplitAt (I : InternerData) (ty : TypeTree) (count : ℕ) (sets : List ℕ) (rest : ℕ) : Type 0 where
  pub within : All (λ s. s < length I.sets) sets
  pub left : rest < length I.types
  pub long : length sets ≡ count
  pub is : ty ≡ arrows (map (set_of_id I) sets) (type_of_id I rest)

pub record IsSplitOf (head : Head) (params count : ℕ) (I : InternerData) (ty : TypeTree) (h : HeadTypeData) : Type 0 where
  pub split : IsSplitAt I ty count h.sets h.ty
  pub env : h.first < length I.envs
  pub asks : IsHeadEnv params head ty (env_of_id I h.first)

pub record HasSplit (head : Head) (params count : ℕ) (I : InternerData) (ty : TypeTree) (found : List HeadTypeData) : Type 0 where
  pub item : HeadTypeData
  pub there : Contains found item
  pub split : IsSplitOf head params count I ty item

pub record GainsSplit (head : Head) (params count : ℕ) (I J : InternerData) (ty : TypeTree) (old new : List HeadTypeData) : Type 0 where
  pub grows : Grows I J
  pub come : (h : HeadTypeData) → Contains new h → Contains old h ⊎ IsSplitOf head params count J ty h
  pub keeps : (h : HeadTypeData) → Contains old h → Contains new h
  pub all : (sets : Env) (rest : TypeTree) → length sets ≡ count → ty ≡ arrows sets rest → HasSplit head params count J ty new

-- the types are numbers of I, what they are split to are numbers of J
pub record AreSplits (head : Head) (params count : ℕ) (I J : InternerData) (types : List ℕ) (found : List HeadTypeData) : Type 0 where
  pub grows : Grows I J
  pub come : (h : HeadTypeData) → Contains found h → (t : ℕ) × (Contains types t × IsSplitOf head params count J (type_of_id I t) h)
  pub all : (t : ℕ) → Contains types t → (sets : Env) (rest : TypeTree) → length sets ≡ count → type_of_id I t ≡ arrows sets rest → HasSplit head params count J (type_of_id I t) found
