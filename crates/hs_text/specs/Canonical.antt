-- The canonical file of a scheme, as bytes.
--     term_text           the name of the head, and for each argument a blank and the argument, in
--                         parentheses where it has arguments itself
--     rule_text           the name, the parameters, `->`, the body and `.`, on a line
--     transition_text     the state, the terminal, `->`, the states on the right and `.`, on a line
--     canonical           the rules and the transitions between their markers, each on its line
use Rattle.std.specs.Prelude.{ℕ, List, [], ◌∷◌, ◌++◌, codes, slice_get, unwrap_or}
use Rattle.std.specs.List.{flat_map, enumerate_from}
use Rattle.hs_scheme.specs.declared.term.Head.{Head}
use Rattle.hs_scheme.specs.declared.term.Head.TheVariants.{Var, Nt, Tm}
use Rattle.hs_scheme.specs.declared.term.Rule.{Rule}
use Rattle.hs_scheme.specs.Tree.{Tree, Trees, node, none, more}
use Rattle.hs_scheme.specs.acceptance.Transition.{TransitionData}
use Rattle.hs_scheme.specs.Names.{NamesData}
use Rattle.hs_scheme.specs.sorting.Unsorted.{UnsortedData}

abbrev pub name_at : List (List ℕ) → ℕ → List ℕ
name_at names n = unwrap_or (slice_get names n) []

abbrev pub params_at : List (List (List ℕ)) → ℕ → List (List ℕ)
params_at params n = unwrap_or (slice_get params n) []

abbrev pub head_text : NamesData → List (List ℕ) → Head → List ℕ
head_text names params (Var j) = name_at params j
head_text names params (Nt f) = name_at names.rules f
head_text names params (Tm a) = name_at names.terminals a

-- what stands before an argument, and behind it
abbrev pub opening : Tree Head → List ℕ
opening (node h none) = codes " "
opening (node h (more t ts)) = codes " ("

abbrev pub closing : Tree Head → List ℕ
closing (node h none) = []
closing (node h (more t ts)) = codes ")"

abbrev mutual
  pub term_text : NamesData → List (List ℕ) → Tree Head → List ℕ
  term_text names params (node h args) = head_text names params h ++ args_text names params args

  pub args_text : NamesData → List (List ℕ) → Trees Head → List ℕ
  args_text names params none = []
  args_text names params (more t ts) = (opening t ++ (term_text names params t ++ closing t)) ++ args_text names params ts

-- each parameter with a blank behind it
abbrev pub params_text : List (List ℕ) → List ℕ
params_text params = flat_map (λ p. p ++ codes " ") params

abbrev pub rule_text : NamesData → ℕ → List (List ℕ) → Rule → List ℕ
rule_text names number params rule =
    name_at names.rules number ++ (codes " " ++ (params_text params ++ (codes "-> " ++ (term_text names params rule.body ++ codes ".\n"))))

-- the rules by number
abbrev pub rules_text : NamesData → List Rule → List ℕ
rules_text names rules = flat_map (λ r. rule_text names r.0 (params_at names.params r.0) r.1) (enumerate_from 0 rules)

-- each state with a blank before it, and a blank where there is none
abbrev pub states_text : NamesData → List ℕ → List ℕ
states_text names [] = codes " "
states_text names (q ∷ qs) = flat_map (λ p. codes " " ++ name_at names.states p) (q ∷ qs)

abbrev pub transition_text : NamesData → TransitionData → List ℕ
transition_text names t =
    name_at names.states t.from ++ (codes " " ++ (name_at names.terminals t.terminal ++ (codes " ->" ++ (states_text names t.to ++ codes ".\n"))))

abbrev pub canonical : UnsortedData → List ℕ
canonical u =
    codes "%BEGING\n" ++ (rules_text u.names u.rules ++ (codes "%ENDG\n%BEGINA\n" ++ (flat_map (transition_text u.names) u.automaton.transitions ++ codes "%ENDA\n")))
