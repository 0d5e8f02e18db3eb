-- Rules that make the same value tree of the start, over terminals of these ranks.
--     HaveSameTree     any automaton over the terminals, from any state, comes along the same paths to a terminal without transition
use Rattle.std.specs.Prelude.{ℕ, List, ◌↔◌}
use Rattle.hs_scheme.specs.declared.term.Rule.{Rule}
use Rattle.hs_scheme.specs.acceptance.Transition.{TransitionData}
use Rattle.hs_scheme.specs.acceptance.Run.{start}
use Rattle.hs_scheme.specs.acceptance.Steps.{Path, Fails}
use Rattle.hs_scheme.specs.sorting.Unsorted.{AgreesWithRanks}
use Rattle.hs_scheme.specs.sorting.Sorted.{known}

-- the path from the start in this state leads to such a terminal, after some number of steps
abbrev pub FailsFromStart : List Rule → List TransitionData → ℕ → Path → Type 0
FailsFromStart rules ts q path = (n : ℕ) × Fails rules ts n q start path

abbrev pub HaveSameTree : List ℕ → List Rule → List Rule → Type 0
HaveSameTree ranks rules others =
    (ts : List TransitionData) → AgreesWithRanks (known ranks) ts → (q : ℕ) (path : Path) → FailsFromStart rules ts q path ↔ FailsFromStart others ts q path
