-- The run of an automaton over a cut tree, and acceptance.
--     run ts q tree     the automaton with transitions ts, in state q, reads the tree to its end
--     Accepts           it reads each cut of the start symbol so, from the initial state
use Rattle.std.specs.Prelude.{ℕ, List, [], ◌∷◌, Bool, true, false, ◌&&◌, IsTrue, Option, Some, None}
use Rattle.std.specs.Option.{option_map_or}
use Rattle.hs_scheme.specs.declared.term.Head.{Head}
use Rattle.hs_scheme.specs.declared.term.Head.TheVariants.{Nt}
use Rattle.hs_scheme.specs.declared.term.Rule.{Rule}
use Rattle.hs_scheme.specs.acceptance.Transition.{TransitionData}
use Rattle.hs_scheme.specs.acceptance.Automaton.{next}
use Rattle.hs_scheme.specs.Tree.{Tree, Trees, node, none, more}
use Rattle.hs_scheme.specs.acceptance.Cut.{CutTree, cut}

-- An undefined node is read in any state. A node is read where there is a transition and each child
-- is read in its state.
abbrev mutual
  pub run : List TransitionData → ℕ → CutTree → Bool
  run ts q (node None trees) = true
  run ts q (node (Some a) trees) = option_map_or (runs ts trees) (next ts q a) false

  pub runs : List TransitionData → Trees (Option ℕ) → List ℕ → Bool
  runs ts none [] = true
  runs ts none (q ∷ qs) = false
  runs ts (more tree trees) [] = false
  runs ts (more tree trees) (q ∷ qs) = run ts q tree && runs ts trees qs

-- the start nonterminal, without arguments
abbrev pub start : Tree Head
start = node (Nt 0) none

abbrev pub Accepts : List Rule → List TransitionData → Type 0
Accepts rules ts = (n : ℕ) → IsTrue (run ts 0 (cut rules n start))
