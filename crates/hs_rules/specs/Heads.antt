-- The types of a head, in numbers.
--     head_type                                   the type that the numbers stand for
--     IsWholeHead                                 its numbers are known, and it has so many sets
--     HasTypeAmong                                a type with these sets is there
--     GainsHeads                                  types from these sources were added, and all of them
--     Just                                        the source is this one
--     BodyAt, ParamAt                             the sources at a place of the log: an entry at a nonterminal's body, and one at a point that may stand for a parameter
--     AtSome, AtRange                             a source at one of these places; at one in a range
--     ChildAt, ChildIn, ReadIn, StopsIn, InState  the sources of a terminal: a child that is rejected, or no transition
--     IsRankOf                                    how many children a terminal has
--     AtFlow                                      a source at a point that may stand for a parameter
--     IsSplit                                     a type is that with these sets
--     IsHeadAt, AreHeads                          a type of the point's head; just those that are wanted
--     Asks, ComesFrom, AsksNothing, AnyHead       what is wanted: a type in the set of an argument; that they come from a place; anything
use Rattle.std.specs.Prelude.{◌≡◌, ℕ, ◌+◌, ◌<◌, ◌≤◌, List, [], ◌∷◌, ◌++◌, length, map, replicate, set, slice_get, None, Some, All, Contains, ◌⊎◌}
use Rattle.hs_scheme.specs.declared.flow.FlowPair.{FlowPair}
use Rattle.hs_scheme.specs.flow.Points.{PointData}
use Rattle.hs_scheme.specs.Problem.{ProblemData}
use Rattle.hs_scheme.specs.acceptance.Transition.{TransitionData}
use Rattle.hs_scheme.specs.acceptance.Automaton.{next}
use Rattle.hs_table.specs.declared.support.HeadBy.{HeadBy}
use Rattle.hs_table.specs.declared.support.HeadBy.TheVariants.{Terminal, Rule, Param}
use Rattle.hs_table.specs.Types.{TypeTree, state, arrows}
use Rattle.hs_table.specs.Entries.{Env, EntryData, Has, params_of}
use Rattle.hs_types.specs.Interned.{InternerData, type_of_id, set_of_id, env_of_id}
use Rattle.hs_table.specs.Follows.{IsHeadType, head_premise}
use Rattle.hs_replica.specs.Places.{Question, IsState, Answers}
use Rattle.hs_rules.specs.Order.{IsNoGreater}
use Rattle.hs_rules.specs.Slots.{IsOwn}
use Rattle.hs_rules.specs.Found.{HeadData, HasKnownNumbers}

abbrev pub head_type : InternerData → HeadData → TypeTree
head_type ids h = arrows (map (set_of_id ids) h.sets) (type_of_id ids h.rest)

pub record IsWholeHead (ids : InternerData) (count : ℕ) (h : HeadData) : Type 0 where
  pub own : h.own < length ids.envs
  pub sets : All (λ s. s < length ids.sets) h.sets
  pub rest : h.rest < length ids.types
  pub long : length h.sets ≡ count

pub record HasTypeAmong (ids : InternerData) (count : ℕ) (by : HeadBy) (sets : Env) (rest : TypeTree) (heads : List HeadData) : Type 0 where
  pub item : HeadData
  pub there : Contains heads item
  pub by_is : item.by ≡ by
  pub whole : IsWholeHead ids count item
  pub sets_are : map (set_of_id ids) item.sets ≡ sets
  pub rest_is : type_of_id ids item.rest ≡ rest

pub record GainsHeads (ids : InternerData) (count : ℕ) (From : HeadBy → Env → TypeTree → Type 0) (old new : List HeadData) : Type 0 where
  pub sound : (h : HeadData) → Contains new h → Contains old h ⊎ (IsWholeHead ids count h × From h.by (env_of_id ids h.own) (head_type ids h))
  pub keeps : (h : HeadData) → Contains old h → Contains new h
  pub all : (by : HeadBy) (own : Env) (ty : TypeTree) → From by own ty → (sets : Env) (rest : TypeTree) → length sets ≡ count → ty ≡ arrows sets rest → HasTypeAmong ids count by sets rest new

abbrev pub Just : HeadBy → Env → TypeTree → HeadBy → Env → TypeTree → Type 0
Just by own ty b o t = (b ≡ by) × (o ≡ own) × (t ≡ ty)

pub record BodyAt (log : List EntryData) (own : Env) (place : ℕ) (b : HeadBy) (o : Env) (t : TypeTree) : Type 0 where
  pub entry : EntryData
  pub at : slice_get log place ≡ Some entry
  pub is_state : IsState entry.ty
  pub just : Just (Rule place) own (arrows entry.env entry.ty) b o t

-- the parameter x of n
pub record ParamAt (log : List EntryData) (n x place : ℕ) (b : HeadBy) (o : Env) (t : TypeTree) : Type 0 where
  pub entry : EntryData
  pub at : slice_get log place ≡ Some entry
  pub just : Just (Param x place) (set (replicate n []) x (entry.ty ∷ [])) entry.ty b o t

pub record AtSome (Source : ℕ → HeadBy → Env → TypeTree → Type 0) (places : List ℕ) (b : HeadBy) (o : Env) (t : TypeTree) : Type 0 where
  pub place : ℕ
  pub among : Contains places place
  pub from : Source place b o t

-- from one number up to another
pub record AtRange (Source : ℕ → HeadBy → Env → TypeTree → Type 0) (from until : ℕ) (b : HeadBy) (o : Env) (t : TypeTree) : Type 0 where
  pub place : ℕ
  pub least : from ≤ place
  pub most : place < until
  pub source : Source place b o t

-- the terminal's transitions have so many children
abbrev pub IsRankOf : List TransitionData → ℕ → ℕ → Type 0
IsRankOf ts a rank = (q : ℕ) (to : List ℕ) → next ts q a ≡ Some to → length to ≡ rank

-- a terminal in state q, whose transition leads to these states: its child at this place is rejected
pub record ChildAt (own : Env) (q : ℕ) (to : List ℕ) (place : ℕ) (b : HeadBy) (o : Env) (t : TypeTree) : Type 0 where
  pub r : ℕ
  pub at : slice_get to place ≡ Some r
  pub just : Just (Terminal q (Some (place + 1))) own (arrows (set (replicate (length to) []) place (state r ∷ [])) (state q)) b o t

pub record ChildIn (ts : List TransitionData) (a : ℕ) (own : Env) (place q : ℕ) (b : HeadBy) (o : Env) (t : TypeTree) : Type 0 where
  pub to : List ℕ
  pub moves : next ts q a ≡ Some to
  pub child : ChildAt own q to place b o t

-- so it is in one of these many states
abbrev pub ReadIn : ℕ → List TransitionData → ℕ → Env → ℕ → ℕ → HeadBy → Env → TypeTree → Type 0
ReadIn states ts a own place q b o t = (q < states) × ChildIn ts a own place q b o t

-- the terminal of this rank has no transition in state q
pub record StopsIn (ts : List TransitionData) (a rank : ℕ) (own : Env) (q : ℕ) (b : HeadBy) (o : Env) (t : TypeTree) : Type 0 where
  pub moves : next ts q a ≡ None
  pub just : Just (Terminal q None) own (arrows (replicate rank []) (state q)) b o t

-- in state q the terminal has no transition, or one, and one of its children from a place on is rejected
abbrev pub InState : List TransitionData → ℕ → ℕ → ℕ → Env → ℕ → HeadBy → Env → TypeTree → Type 0
InState ts a rank from own q b o t = StopsIn ts a rank own q b o t ⊎ AtRange (λ place. ChildIn ts a own place q) from rank b o t

-- a source at a place below the limit that answers what is asked for a pair's point
pub record AtFlow (log : List EntryData) (n x limit : ℕ) (asked : ℕ → Question) (pairs : List FlowPair) (b : HeadBy) (o : Env) (t : TypeTree) : Type 0 where
  pub pair : FlowPair
  pub among : Contains pairs pair
  pub place : ℕ
  pub within : place < limit
  pub answers : Answers log place (asked pair.point)
  pub source : ParamAt log n x place b o t

pub record IsSplit (ids : InternerData) (ty count : ℕ) (sets : List ℕ) (rest : ℕ) : Type 0 where
  pub sets_within : All (λ s. s < length ids.sets) sets
  pub rest_within : rest < length ids.types
  pub long : length sets ≡ count
  pub is : type_of_id ids ty ≡ arrows (map (set_of_id ids) sets) (type_of_id ids rest)

-- what comes from the one has no greater premises than what comes from the other
abbrev pub IsNoGreaterHead : HeadBy → HeadBy → Type 0
IsNoGreaterHead b by = (places : List ℕ) → IsNoGreater (head_premise b ++ places) (head_premise by ++ places)

abbrev pub HasNoGreaterType : InternerData → ℕ → HeadBy → Env → TypeTree → List HeadData → Type 0
HasNoGreaterType ids count by sets rest heads = (b : HeadBy) × (IsNoGreaterHead b by × HasTypeAmong ids count b sets rest heads)

pub record IsHeadAt (p : ProblemData) (E : List EntryData) (of : PointData) (ids : InternerData) (h : HeadData) : Type 0 where
  pub known : HasKnownNumbers ids of.args h
  pub type : IsHeadType p E of.rule of.head h.by (head_type ids h)
  pub own : IsOwn (params_of p of.rule) of.head (head_type ids h) (env_of_id ids h.own)

-- just the types of the head that are wanted
pub record AreHeads (p : ProblemData) (E : List EntryData) (of : PointData) (ids : InternerData) (Wanted : HeadBy → Env → Type 0) (heads : List HeadData) : Type 0 where
  pub sound : (h : HeadData) → Contains heads h → IsHeadAt p E of ids h × Wanted h.by (map (set_of_id ids) h.sets)
  pub all : (by : HeadBy) (sets : Env) (rest : TypeTree) → length sets ≡ length of.args → IsHeadType p E of.rule of.head by (arrows sets rest) → Wanted by sets → HasNoGreaterType ids (length of.args) by sets rest heads

-- the ones with this type in the set of this argument
abbrev pub Asks : ℕ → TypeTree → HeadBy → Env → Type 0
Asks arg a by sets = Has sets arg a

-- the ones that come from the place
abbrev pub ComesFrom : ℕ → HeadBy → Env → Type 0
ComesFrom place by sets = head_premise by ≡ place ∷ []

-- the ones without types in their sets
abbrev pub AsksNothing : HeadBy → Env → Type 0
AsksNothing by sets = (j : ℕ) (a : TypeTree) → Has sets j a → ⊥

abbrev pub AnyHead : HeadBy → Env → Type 0
AnyHead by sets = Unit {0}
