-- The transitions of an automaton by terminal, and by what they read at a child.
--     IsPlaceOf ts a i        the transition at place i has the terminal a
--     Reads ts a child s q    in state q, at a node with terminal a, this child is read in state s
use Rattle.std.specs.Prelude.{◌≡◌, ℕ, ◌<◌, List, [], slice_get, Option, Some, Contains, ◌↔◌, ◌⊎◌, Vec}
use Rattle.std.specs.Option.{option_map_or}
use Rattle.std.specs.declared.alloc.Global.{Global}
use Rattle.hs_scheme.specs.acceptance.Transition.{TransitionData}
use Rattle.hs_scheme.specs.acceptance.Automaton.{next}

abbrev pub IsPlaceOf : List TransitionData → ℕ → ℕ → Type 0
IsPlaceOf ts a i = (t : TransitionData) × ((slice_get ts i ≡ Some t) × (t.terminal ≡ a))

abbrev pub Reads : List TransitionData → ℕ → ℕ → ℕ → ℕ → Type 0
Reads ts a child s q = (to : List ℕ) × ((next ts q a ≡ Some to) × (slice_get to child ≡ Some s))

-- the items of a row of a map, none where it has no such row
abbrev pub items_of : Option (Vec ℕ Global) → List ℕ
items_of row = option_map_or (λ v. v.items) row []

-- the rows have the places of the first n transitions, by terminal
abbrev pub IsByTerminal : List TransitionData → ℕ → (ℕ → List ℕ) → Type 0
IsByTerminal ts n rows = (a i : ℕ) → Contains (rows a) i ↔ ((i < n) × IsPlaceOf ts a i)

-- the transition reads the child in the state s, where it is in q and has the terminal a
pub record IsRead (t : TransitionData) (a child s q : ℕ) : Type 0 where
  pub from : t.from ≡ q
  pub terminal : t.terminal ≡ a
  pub to : slice_get t.to child ≡ Some s

pub record IsReadBy (ts : List TransitionData) (n a child s q : ℕ) : Type 0 where
  pub place : ℕ
  pub within : place < n
  pub transition : TransitionData
  pub at : slice_get ts place ≡ Some transition
  pub read : IsRead transition a child s q

-- the rows have the states of the first n transitions, by terminal, child and the child's state
abbrev pub IsByChild : List TransitionData → ℕ → (ℕ → ℕ → ℕ → List ℕ) → Type 0
IsByChild ts n rows = (a child s q : ℕ) → Contains (rows a child s) q ↔ IsReadBy ts n a child s q

-- the rows gain what the first m children of the transition are read in
abbrev pub GainsReads : TransitionData → ℕ → (ℕ → ℕ → ℕ → List ℕ) → (ℕ → ℕ → ℕ → List ℕ) → Type 0
GainsReads t m old new = (a child s q : ℕ) → Contains (new a child s) q ↔ (Contains (old a child s) q ⊎ ((child < m) × IsRead t a child s q))
