-- Pairs of a point and a state.
--     all_pairs points states     all of them
--     IsArgumentRead args states x     an argument with the state at its place
--     IsReadBehind ts state b args x   an argument with the state behind those of the arguments that are given to the terminal
--     AreHanded p handed pairs    where a parameter's number is handed on in a state, the pairs have each point that may stand for it, in this state
--     AreNeeded p pairs           the pairs are in each closed list
use Rattle.std.specs.Prelude.{◌≡◌, ℕ, zero, suc, ◌+◌, List, [], ◌∷◌, ◌++◌, slice_get, Some, Contains}
use Rattle.hs_scheme.specs.acceptance.Transition.{TransitionData}
use Rattle.hs_scheme.specs.acceptance.Automaton.{next}
use Rattle.hs_scheme.specs.Problem.{ProblemData}
use Rattle.hs_scheme.specs.sorting.Parameters.{IsParameter, parameter_of}
use Rattle.hs_weak.specs.Reads.{FlowsTo, Read, IsClosedReads}
use Rattle.hs_reads.specs.declared.becoming.Becoming.{Becoming}

abbrev pub states_at : ℕ → ℕ → List (ℕ × ℕ)
states_at point zero = []
states_at point (suc states) = (point, states) ∷ states_at point states

abbrev pub all_pairs : ℕ → ℕ → List (ℕ × ℕ)
all_pairs zero states = []
all_pairs (suc points) states = states_at points states ++ all_pairs points states

-- the pairs have the body of the start in the initial state
abbrev pub HasStart : ProblemData → List (ℕ × ℕ) → Type 0
HasStart p pairs = (body : ℕ) → slice_get p.points.bodies 0 ≡ Some body → Contains pairs (body, 0)

-- the pairs have all that this pair demands
abbrev pub Demands : ProblemData → ℕ × ℕ → List (ℕ × ℕ) → Type 0
Demands p pair pairs = (point q : ℕ) → Read p (pair ∷ []) point q → Contains pairs (point, q)

-- the pair demands this one
abbrev pub IsDemandedBy : ProblemData → ℕ × ℕ → ℕ × ℕ → Type 0
IsDemandedBy p pair x = Read p (pair ∷ []) x.0 x.1

pub record IsArgumentRead (args states : List ℕ) (x : ℕ × ℕ) : Type 0 where
  pub place : ℕ
  pub arg : slice_get args place ≡ Some x.0
  pub state : slice_get states place ≡ Some x.1

pub record IsReadBehind (ts : List TransitionData) (state : ℕ) (b : Becoming) (args : List ℕ) (x : ℕ × ℕ) : Type 0 where
  pub states : List ℕ
  pub place : ℕ
  pub moves : next ts state b.terminal ≡ Some states
  pub arg : slice_get args place ≡ Some x.0
  pub state_is : slice_get states (b.given + place) ≡ Some x.1

abbrev pub AreHanded : ProblemData → List (ℕ × ℕ) → List (ℕ × ℕ) → Type 0
AreHanded p handed pairs =
    (rule x v q : ℕ) → IsParameter p.points.params rule x → Contains handed (parameter_of p.points.params rule x, q) → FlowsTo p rule x v → Contains pairs (v, q)

abbrev pub AreNeeded : ProblemData → List (ℕ × ℕ) → Type 0
AreNeeded p pairs = (S : List (ℕ × ℕ)) → IsClosedReads p S → (x : ℕ × ℕ) → Contains pairs x → Contains S x
