-- A scheme with its automaton and names before its sorts are known, as plain data.
use Rattle.std.specs.Prelude.{◌≡◌, refl, ℕ, List, All, length, map, slice_get, Option, Some}
use Rattle.std.specs.Coded.{Coded, code_by, coded×, coded_ℕ, coded_list, coded_option}
use Rattle.hs_scheme.specs.declared.term.Rule.{Rule}
use Rattle.hs_scheme.specs.acceptance.Transition.{TransitionData}
use Rattle.hs_scheme.specs.acceptance.Automaton.{AutomatonData, coded_automaton}
use Rattle.hs_scheme.specs.Names.{NamesData, coded_names}
use Rattle.hs_scheme.specs.Scheme.{coded_rule, AreRules}

-- the rank of a terminal is known where it has transitions
pub record UnsortedData : Type 0 where
  pub rules : List Rule
  pub ranks : List (Option ℕ)
  pub automaton : AutomatonData
  pub names : NamesData

abbrev pub coded_unsorted : Coded UnsortedData
coded_unsorted =
    code_by (List Rule × (List (Option ℕ) × (AutomatonData × NamesData)))
    (coded× (coded_list coded_rule) (coded× (coded_list (coded_option coded_ℕ)) (coded× coded_automaton coded_names)))
    (λ u. (u.rules, (u.ranks, (u.automaton, u.names))))
    (λ p. record { rules = p.0; ranks = p.1.0; automaton = p.1.1.0; names = p.1.1.1 }) (λ _. refl)

-- one name for each rule, parameter, terminal and state
pub record HasNames (names : NamesData) (rules : List Rule) (terminals states : ℕ) : Type 0 where
  pub each_rule : length names.rules ≡ length rules
  pub each_param : map (λ ns. length ns) names.params ≡ map (λ r. r.params) rules
  pub each_terminal : length names.terminals ≡ terminals
  pub each_state : length names.states ≡ states

-- each transition has as many states on its right as its terminal's rank says
abbrev pub AgreesWithRanks : List (Option ℕ) → List TransitionData → Type 0
AgreesWithRanks ranks ts = All (λ t. slice_get ranks t.terminal ≡ Some (Some (length t.to))) ts

pub record IsUnsorted (u : UnsortedData) : Type 0 where
  pub rules : AreRules u.rules (length u.ranks)
  pub ranks : AgreesWithRanks u.ranks u.automaton.transitions
  pub names : HasNames u.names u.rules (length u.ranks) u.automaton.states
