-- A deterministic trivial automaton as plain data.
use Rattle.std.specs.Prelude.{◌≡◌, refl, ℕ, ◌<◌, Bool, true, ◌&&◌, nat_eq, List, All, find, slice_get, Option, Some, option_map}
use Rattle.std.specs.Coded.{Coded, code_by, coded×, coded_ℕ, coded_list}
use Rattle.hs_scheme.specs.acceptance.Transition.{TransitionData, coded_transition}

-- the states are 0 to states - 1, and 0 is initial
pub record AutomatonData : Type 0 where
  pub states : ℕ
  pub transitions : List TransitionData

abbrev pub coded_automaton : Coded AutomatonData
coded_automaton =
    code_by (ℕ × List TransitionData) (coded× coded_ℕ (coded_list coded_transition)) (λ a. (a.states, a.transitions))
    (λ p. record { states = p.0; transitions = p.1 }) (λ _. refl)

-- the transition is that of this state and terminal
abbrev pub is_of : ℕ → ℕ → TransitionData → Bool
is_of q a t = nat_eq t.from q && nat_eq t.terminal a

-- the states for the children of a node with terminal a in state q, where there is a transition
abbrev pub next : List TransitionData → ℕ → ℕ → Option (List ℕ)
next ts q a = option_map (λ t. t.to) (find (is_of q a) ts)

-- no state and terminal have two transitions
abbrev pub IsDeterministic : List TransitionData → Type 0
IsDeterministic ts = (i j : ℕ) (s t : TransitionData) → slice_get ts i ≡ Some s → slice_get ts j ≡ Some t → s.from ≡ t.from → s.terminal ≡ t.terminal → i ≡ j

-- there is a state, all states are in range, and no state and terminal have two transitions
pub record IsAutomaton (a : AutomatonData) : Type 0 where
  pub initial : 0 < a.states
  pub from : All (λ t. t.from < a.states) a.transitions
  pub to : All (λ t. All (λ q. q < a.states) t.to) a.transitions
  pub deterministic : IsDeterministic a.transitions

-- the index leads from their states and terminals to the first n transitions, and from no others
pub record IsTransitionIndex (index : ℕ → ℕ → Option ℕ) (ts : List TransitionData) (n : ℕ) : Type 0 where
  pub sound : (q a i : ℕ) → index q a ≡ Some i → (i < n) × ((t : TransitionData) × (slice_get ts i ≡ Some t) × (is_of q a t ≡ true))
  pub complete : (i : ℕ) (t : TransitionData) → i < n → slice_get ts i ≡ Some t → index t.from t.terminal ≡ Some i
