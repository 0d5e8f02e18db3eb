-- What a path at whose end an automaton fails says of a scheme.
--     IsFailingPath    it leads from the start, in as many steps as it says, to its last terminal, which has no transition in its state
use Rattle.std.specs.Prelude.{◌≡◌, List, None}
use Rattle.hs_scheme.specs.declared.term.Head.{Head}
use Rattle.hs_scheme.specs.declared.term.Head.TheVariants.{Tm}
use Rattle.hs_scheme.specs.declared.term.Rule.{Rule}
use Rattle.hs_scheme.specs.acceptance.Transition.{TransitionData}
use Rattle.hs_scheme.specs.acceptance.Automaton.{next}
use Rattle.hs_scheme.specs.Tree.{Trees, node}
use Rattle.hs_scheme.specs.acceptance.Run.{start}
use Rattle.hs_scheme.specs.acceptance.Steps.{Reaches}
use Rattle.hs_scheme.specs.acceptance.FailingPath.{FailingPathData}

pub record IsFailingPath (rules : List Rule) (ts : List TransitionData) (path : FailingPathData) : Type 0 where
  pub arguments : Trees Head
  pub reaches : Reaches rules ts path.used 0 start path.steps path.state (node (Tm path.last) arguments)
  pub stuck : next ts path.state path.last ≡ None
