-- How an interner stores what has numbers: a type as a node that names a set and a type by their numbers, a set as a list of numbers of
-- types, an environment as a list of numbers of sets.
--     node_type, IsInRange          what a node stands for, where its numbers are in use
--     data_of nodes sets envs       what the stored lists stand for
--     AreNodes nodes sets envs I    the stored lists stand for I, and each is in range
--     Adds old new x                the item was there, or stands now at the end
use Rattle.std.specs.Prelude.{◌≡◌, ℕ, ◌<◌, List, [], ◌∷◌, ◌++◌, length, map, slice_get, slice_index_or, Some, Contains, All, ◌⊎◌, Vec, ⊤}
use Rattle.std.specs.declared.alloc.Global.{Global}
use Rattle.hs_table.specs.Types.{TypeTree, state, arrow}
use Rattle.hs_types.specs.declared.ids.View.{View}
use Rattle.hs_types.specs.declared.ids.View.TheVariants.{State, Arrow}
use Rattle.hs_types.specs.Interned.{InternerData, type_of_id, set_of_id, IsView, IsInterner}

abbrev pub node_type : InternerData → View → TypeTree
node_type I (State q) = state q
node_type I (Arrow s r) = arrow (set_of_id I s) (type_of_id I r)

abbrev pub IsInRange : InternerData → View → Type 0
IsInRange I (State q) = ⊤
IsInRange I (Arrow s r) = (s < length I.sets) × (r < length I.types)

-- the items of xs at these places
abbrev pub items_at : {X : Type 0} → List X → X → List ℕ → List X
items_at xs d places = map (λ i. slice_index_or xs i d) places

-- the types of the nodes, in order, behind the types ts
abbrev pub types_behind : List (List ℕ) → List TypeTree → List View → List TypeTree
types_behind sets ts [] = ts
types_behind sets ts (State q ∷ ns) = types_behind sets (ts ++ state q ∷ []) ns
types_behind sets ts (Arrow s r ∷ ns) =
    types_behind sets (ts ++ arrow (items_at ts (state 0) (slice_index_or sets s [])) (slice_index_or ts r (state 0)) ∷ []) ns

abbrev pub sets_over : List TypeTree → List (List ℕ) → List (List TypeTree)
sets_over types sets = map (items_at types (state 0)) sets

abbrev pub data_of : List View → List (List ℕ) → List (List ℕ) → InternerData
data_of nodes sets envs =
    let types = types_behind sets [] nodes in
    record { types = types; sets = sets_over types sets; envs = map (items_at (sets_over types sets) []) envs }

abbrev pub AllBelow : ℕ → List (List ℕ) → Type 0
AllBelow n lists = All (λ (ids : List ℕ). All (λ i. i < n) ids) lists

pub record AreNodes (nodes : List View) (sets envs : List (List ℕ)) (I : InternerData) : Type 0 where
  pub exact : IsInterner I
  pub long : length I.types ≡ length nodes
  pub of_sets : I.sets ≡ sets_over I.types sets
  pub of_envs : I.envs ≡ map (items_at I.sets []) envs
  pub reads : (t : ℕ) (n : View) → slice_get nodes t ≡ Some n → IsView I t n
  pub set_range : AllBelow (length I.types) sets
  pub env_range : AllBelow (length I.sets) envs

abbrev pub lists_of : List (Vec ℕ Global) → List (List ℕ)
lists_of vs = map (λ (v : Vec ℕ Global). v.items) vs

abbrev pub Adds : {X : Type 0} → List X → List X → X → Type 0
Adds old new x = (new ≡ old) ⊎ ((Contains old x → ⊥) × (new ≡ old ++ x ∷ []))
