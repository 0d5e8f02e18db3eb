-- Failing within a number of steps.
use Rattle.std.specs.Prelude.{ℕ, ◌≤◌, List}
use Rattle.hs_scheme.specs.declared.term.Head.{Head}
use Rattle.hs_scheme.specs.declared.term.Rule.{Rule}
use Rattle.hs_scheme.specs.acceptance.Transition.{TransitionData}
use Rattle.hs_scheme.specs.Tree.{Tree}
use Rattle.hs_scheme.specs.acceptance.Steps.{Path, Fails}

-- some path leads in at most n steps to a terminal that has no transition
abbrev pub FailsWithin : List Rule → List TransitionData → ℕ → ℕ → Tree Head → Type 0
FailsWithin rules ts n q t = (path : Path) × (m : ℕ) × (m ≤ n) × Fails rules ts m q t path
