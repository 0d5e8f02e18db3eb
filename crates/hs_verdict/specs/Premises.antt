-- What the verdict of a table stands on.
--     IsSortedProblem    a sorted scheme with its automaton, and the points of its rules
--     HasClosedFlow      all that the flow demands is in it
use Rattle.hs_scheme.specs.Scheme.{IsScheme}
use Rattle.hs_scheme.specs.acceptance.Automaton.{IsAutomaton}
use Rattle.hs_scheme.specs.sorting.Sorted.{IsSorted}
use Rattle.hs_scheme.specs.flow.Flow.{IsClosed, pairs_of}
use Rattle.hs_scheme.specs.Problem.{ProblemData, IsProblem}

-- each of these is an invariant of the type that holds the part
pub record IsSortedProblem (p : ProblemData) : Type 0 where
  pub scheme : IsScheme p.sorted.scheme
  pub automaton : IsAutomaton p.sorted.automaton
  pub sorted : IsSorted p.sorted
  pub problem : IsProblem p

abbrev pub HasClosedFlow : ProblemData → Type 0
HasClosedFlow p = IsClosed p.sorted.scheme.rules (pairs_of p.flow.pairs p.flow.heads)
