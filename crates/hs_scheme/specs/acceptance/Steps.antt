-- The steps of an automaton that reads the value tree of a term from the front, along a path.
--     Path          terminals, each with the number of a child, counted from 1
--     StepsTo       one step from a state and a term to the next. A replacement of the nonterminal in front
--                   has no label; the descent from the terminal in front to a child has these two as its label
--     LeadsTo       a step along the front of a path, after which P holds with the rest of it
--     Along         n steps along a whole path, after which P holds
--     Reaches       n steps along a whole path, to this state and term
--     Fails         n steps along a whole path, to a terminal that has no transition
use Rattle.std.specs.Prelude.{◌≡◌, ◌≢◌, ℕ, zero, suc, ◌+◌, List, [], ◌∷◌, ◌++◌, length, map, slice_get, Some, None, ◌⊎◌}
use Rattle.hs_scheme.specs.declared.term.Head.{Head}
use Rattle.hs_scheme.specs.declared.term.Head.TheVariants.{Var, Nt, Tm}
use Rattle.hs_scheme.specs.declared.term.Rule.{Rule}
use Rattle.hs_scheme.specs.acceptance.Transition.{TransitionData}
use Rattle.hs_scheme.specs.acceptance.Automaton.{next}
use Rattle.hs_scheme.specs.Tree.{Tree, node, children}
use Rattle.hs_scheme.specs.acceptance.Cut.{unfolded}

abbrev pub Path : Type 0
Path = List (ℕ × ℕ)

-- a child of the terminal a: a transition's states qs and the node's children us have at its place this
-- state and this term
pub record IsChild (a : ℕ) (qs : List ℕ) (us : List (Tree Head)) (label : Path) (q : ℕ) (u : Tree Head) : Type 0 where
  pub place : ℕ
  pub labelled : label ≡ (a, place + 1) ∷ []
  pub state : slice_get qs place ≡ Some q
  pub term : slice_get us place ≡ Some u

abbrev pub StepsTo : List Rule → List TransitionData → ℕ → Tree Head → Path → ℕ → Tree Head → Type 0
StepsTo rules ts q (node (Var j) us) label p u = ⊥
StepsTo rules ts q (node (Nt f) us) label p u = (label ≡ []) × (p ≡ q) × (unfolded rules f (children us) ≡ Some u)
StepsTo rules ts q (node (Tm a) us) label p u = (qs : List ℕ) × (next ts q a ≡ Some qs) × IsChild a qs (children us) label p u

pub record LeadsTo (rules : List Rule) (ts : List TransitionData) (P : ℕ → Tree Head → Path → Type 0) (q : ℕ) (t : Tree Head) (path : Path) : Type 0 where
  pub label : Path
  pub rest : Path
  pub state : ℕ
  pub term : Tree Head
  pub whole : path ≡ label ++ rest
  pub step : StepsTo rules ts q t label state term
  pub holds : P state term rest

abbrev pub Along : List Rule → List TransitionData → (ℕ → Tree Head → Type 0) → ℕ → ℕ → Tree Head → Path → Type 0
Along rules ts P zero q t path = (path ≡ []) × P q t
Along rules ts P (suc n) q t path = LeadsTo rules ts (Along rules ts P n) q t path

abbrev pub Reaches : List Rule → List TransitionData → ℕ → ℕ → Tree Head → Path → ℕ → Tree Head → Type 0
Reaches rules ts n q t path p u = Along rules ts (λ r v. (r ≡ p) × (v ≡ u)) n q t path

-- a terminal in front without transition in the state
abbrev pub HasNoTransition : List TransitionData → ℕ → Tree Head → Type 0
HasNoTransition ts q (node (Var j) us) = ⊥
HasNoTransition ts q (node (Nt f) us) = ⊥
HasNoTransition ts q (node (Tm a) us) = next ts q a ≡ None

abbrev pub Fails : List Rule → List TransitionData → ℕ → ℕ → Tree Head → Path → Type 0
Fails rules ts n q t path = Along rules ts (HasNoTransition ts) n q t path

-- the same along child numbers alone: those of some path
abbrev pub child_numbers : Path → List ℕ
child_numbers path = map (λ s. s.1) path

abbrev pub ReachesByChildren : List Rule → List TransitionData → ℕ → ℕ → Tree Head → List ℕ → ℕ → Tree Head → Type 0
ReachesByChildren rules ts n q t cs p u = (path : Path) × (child_numbers path ≡ cs) × Reaches rules ts n q t path p u

abbrev pub FailsByChildren : List Rule → List TransitionData → ℕ → ℕ → Tree Head → List ℕ → Type 0
FailsByChildren rules ts n q t cs = (path : Path) × (child_numbers path ≡ cs) × Fails rules ts n q t path

-- a terminal in front that the automaton doesn't read on from: it has no transition, or another number of
-- children than its transition has states, as it may have in a term that isn't sorted
abbrev pub IsStuck : List TransitionData → ℕ → Tree Head → Type 0
IsStuck ts q (node (Var j) us) = ⊥
IsStuck ts q (node (Nt f) us) = ⊥
IsStuck ts q (node (Tm a) us) = (next ts q a ≡ None) ⊎ ((qs : List ℕ) × (next ts q a ≡ Some qs) × (length qs ≢ length (children us)))
