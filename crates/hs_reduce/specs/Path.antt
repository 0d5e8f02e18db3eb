-- Paths to a terminal without transition.
--     IsErrorFrom    from this state and term the path leads in its number of steps to its last terminal, in its
--                    state, where that has no transition
use Rattle.std.specs.Prelude.{ℕ, List}
use Rattle.hs_scheme.specs.declared.term.Head.{Head}
use Rattle.hs_scheme.specs.declared.term.Head.TheVariants.{Tm}
use Rattle.hs_scheme.specs.declared.term.Rule.{Rule}
use Rattle.hs_scheme.specs.acceptance.Transition.{TransitionData}
use Rattle.hs_scheme.specs.Tree.{Tree, Trees, node}
use Rattle.hs_scheme.specs.acceptance.Steps.{Reaches, Fails}
use Rattle.hs_scheme.specs.acceptance.FailingPath.{FailingPathData}

pub record IsErrorFrom (rules : List Rule) (ts : List TransitionData) (q : ℕ) (t : Tree Head) (path : FailingPathData) : Type 0 where
  pub fails : Fails rules ts path.used q t path.steps
  pub arguments : Trees Head
  pub reaches : Reaches rules ts path.used q t path.steps path.state (node (Tm path.last) arguments)
