-- How the names of a file are numbered, and the scheme that a file without faults stands for.
--     left, left_names   the names on the left of the rules, in file order: the number of a rule is its place
--     terminal_names     the terminals by first occurrence, through the bodies and then the transitions
--     state_names        the states by first occurrence, in each transition the state first and then the right side
--     unsorted_of        the scheme, with its automaton and its names
use Rattle.std.specs.Prelude.{ℕ, Bool, not, ◌&&◌, List, ◌∷◌, ◌++◌, map, filter, length, find, Option, option_map, if◌then◌else◌}
use Rattle.std.specs.List.{flat_map}
use Rattle.std.specs.Option.{option_map_or}
use Rattle.std.specs.Str.{bytes_eq}
use Rattle.hs_scheme.specs.declared.term.Head.{Head}
use Rattle.hs_scheme.specs.declared.term.Head.TheVariants.{Var, Nt, Tm}
use Rattle.hs_scheme.specs.declared.term.Rule.{Rule as NumberedRule}
use Rattle.hs_scheme.specs.Tree.{Tree, Trees, node, none, more}
use Rattle.hs_scheme.specs.acceptance.Transition.{TransitionData}
use Rattle.hs_scheme.specs.sorting.Unsorted.{UnsortedData}
use Rattle.hs_reader.specs.declared.raw.RawName.{RawName}
use Rattle.hs_reader.specs.Raw.{Rule, Transition, File}
use Rattle.hs_reader.specs.Limits.{term_names}
use Rattle.hs_reader.specs.Grammar.{begins_upper}
use Rattle.hs_resolve.specs.Names.{texts, is_among, number_of, number, distinct}

abbrev pub left : File → List RawName
left raw = map (λ r. r.name) raw.rules

abbrev pub left_names : File → List (List ℕ)
left_names raw = texts (left raw)

-- in a body, a lower name that isn't one of the rule's parameters
abbrev pub is_terminal : List (List ℕ) → List ℕ → Bool
is_terminal params x = not (begins_upper x) && not (is_among params x)

abbrev pub terminals_in : Rule → List (List ℕ)
terminals_in rule = filter (is_terminal (texts rule.params)) (texts (term_names rule.body))

abbrev pub terminal_names : File → List (List ℕ)
terminal_names raw = distinct (flat_map terminals_in raw.rules ++ map (λ t. t.terminal.text) raw.transitions)

abbrev pub states_in : Transition → List (List ℕ)
states_in t = t.from.text ∷ texts t.to

abbrev pub state_names : File → List (List ℕ)
state_names raw = distinct (flat_map states_in raw.transitions)

-- What a name in a body stands for: an upper one for the nonterminal of the rule with that name, a
-- lower one for the rule's parameter of that name, where there is one, and else for a terminal.
abbrev pub head_of : (rules params terminals : List (List ℕ)) → RawName → Head
head_of rules params terminals name =
    if begins_upper name.text then Nt (number rules name.text) else option_map_or Var (number_of params name.text) (Tm (number terminals name.text))

-- the term with a head for each of its names
abbrev mutual
  pub numbered : (RawName → Head) → Tree RawName → Tree Head
  numbered head (node name args) = node (head name) (numbered_each head args)

  pub numbered_each : (RawName → Head) → Trees RawName → Trees Head
  numbered_each head none = none
  numbered_each head (more t ts) = more (numbered head t) (numbered_each head ts)

abbrev pub rule_of : (rules terminals : List (List ℕ)) → Rule → NumberedRule
rule_of rules terminals r = record { params = length r.params; body = numbered (head_of rules (texts r.params) terminals) r.body }

abbrev pub transition_of : (states terminals : List (List ℕ)) → Transition → TransitionData
transition_of states terminals t =
    record { from = number states t.from.text; terminal = number terminals t.terminal.text; to = map (λ q. number states q.text) t.to }

-- the first transition of a terminal, and the length of its right side
abbrev pub first_of : List Transition → List ℕ → Option Transition
first_of ts x = find (λ t. bytes_eq x t.terminal.text) ts

abbrev pub rank_of : List Transition → List ℕ → Option ℕ
rank_of ts x = option_map (λ t. length t.to) (first_of ts x)

abbrev pub unsorted_of : File → UnsortedData
unsorted_of raw =
    let rules = left_names raw in
    let terminals = terminal_names raw in
    let states = state_names raw in
    record {
      rules = map (rule_of rules terminals) raw.rules;
      ranks = map (rank_of raw.transitions) terminals;
      automaton = record { states = length states; transitions = map (transition_of states terminals) raw.transitions };
      names = record { rules = rules; params = map (λ r. texts r.params) raw.rules; terminals = terminals; states = states };
    }
