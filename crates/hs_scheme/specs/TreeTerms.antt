-- The terms that steps go through: without parameters, and of the sort of trees.
--     IsTreeTerm     the term has sort o
--     AreSortedBy    rules of a scheme with a sorting of all of them, and transitions that agree with the ranks
use Rattle.std.specs.Prelude.{ℕ, List, length, Option}
use Rattle.hs_scheme.specs.declared.term.Head.{Head}
use Rattle.hs_scheme.specs.declared.term.Head.TheVariants.{Var, Nt, Tm}
use Rattle.hs_scheme.specs.declared.term.Rule.{Rule}
use Rattle.hs_scheme.specs.acceptance.Transition.{TransitionData}
use Rattle.hs_scheme.specs.Tree.{Tree}
use Rattle.hs_scheme.specs.Scheme.{AreRules}
use Rattle.hs_scheme.specs.sorting.Sorting.{SortTree, o, Sorts, HasSort, IsSorting}
use Rattle.hs_scheme.specs.sorting.Unsorted.{AgreesWithRanks}

-- the sorts of heads outside of rules, where a parameter has no meaning
abbrev pub ground : Sorts → Head → SortTree
ground s (Var j) = o
ground s (Nt f) = s.nonterminal f
ground s (Tm a) = s.terminal a

abbrev pub IsTreeTerm : Sorts → Tree Head → Type 0
IsTreeTerm s t = HasSort (ground s) t o

pub record AreSortedBy (rules : List Rule) (terminals : ℕ) (ranks : List (Option ℕ)) (ts : List TransitionData) (s : Sorts) : Type 0 where
  pub are_rules : AreRules rules terminals
  pub sorting : IsSorting rules ranks (length rules) s
  pub agree : AgreesWithRanks ranks ts
