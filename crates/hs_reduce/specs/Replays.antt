-- What the reduction of the start along the child numbers of a path comes to.
--     IsMet              after the first children of the path, in at most so many steps, this terminal is met in this state
--     MeetsAlong         what is met there
--     IsReplayAnswer     that, or that nothing is met
--     IsFailureAlong     the failing path that the first of these children make up, within so many steps, or that none of them do
use Rattle.std.specs.Prelude.{◌≡◌, ℕ, ◌<◌, ◌≤◌, ◌⊎◌, List, length, take, slice_get, slice_index, Option, Some, None}
use Rattle.hs_scheme.specs.declared.term.Head.{Head}
use Rattle.hs_scheme.specs.declared.term.Head.TheVariants.{Tm}
use Rattle.hs_scheme.specs.acceptance.Transition.{TransitionData}
use Rattle.hs_scheme.specs.acceptance.Automaton.{next}
use Rattle.hs_scheme.specs.Tree.{Trees, node}
use Rattle.hs_scheme.specs.acceptance.Run.{start}
use Rattle.hs_scheme.specs.acceptance.Steps.{ReachesByChildren, child_numbers}
use Rattle.hs_scheme.specs.acceptance.FailingPath.{FailingPathData}
use Rattle.hs_scheme.specs.acceptance.Failing.{IsFailingPath}
use Rattle.hs_scheme.specs.sorting.Sorted.{SortedData}
use Rattle.hs_reduce.specs.declared.answers.Replay.{Replay}
use Rattle.hs_reduce.specs.declared.answers.Replay.TheVariants.{Stuck, Ended, NoChild, Runs}

-- after `at` children and `used` steps, at most `steps`, the terminal a is met in the state q
pub record IsMet (s : SortedData) (path : List ℕ) (steps at used q a : ℕ) : Type 0 where
  pub in_time : used ≤ steps
  pub on_path : at ≤ length path
  pub arguments : Trees Head
  pub reached : ReachesByChildren s.scheme.rules s.automaton.transitions used 0 start (take at path) q (node (Tm a) arguments)

abbrev pub HasTransition : List TransitionData → ℕ → ℕ → Type 0
HasTransition ts q a = (to : List ℕ) × (next ts q a ≡ Some to)

-- the children of the terminal a are numbered from 1 to its rank
abbrev pub IsNoChild : List ℕ → ℕ → ℕ → Type 0
IsNoChild ranks a c = (c ≡ 0) ⊎ (slice_index ranks a < c)

-- all children were followed to a terminal with a transition
pub record IsEndOfPath (s : SortedData) (path : List ℕ) (steps used : ℕ) : Type 0 where
  pub state : ℕ
  pub terminal : ℕ
  pub met : IsMet s path steps (length path) used state terminal
  pub goes_on : HasTransition s.automaton.transitions state terminal

-- after `at` children a terminal with a transition is met, and the next number is that of no child
pub record IsOffPath (s : SortedData) (path : List ℕ) (steps at : ℕ) : Type 0 where
  pub used : ℕ
  pub state : ℕ
  pub terminal : ℕ
  pub met : IsMet s path steps at used state terminal
  pub goes_on : HasTransition s.automaton.transitions state terminal
  pub number : ℕ
  pub next : slice_get path at ≡ Some number
  pub no_child : IsNoChild s.scheme.ranks terminal number

abbrev pub MeetsAlong : SortedData → List ℕ → ℕ → Replay → Type 0
MeetsAlong s path steps (Stuck a q at used) = IsMet s path steps at used q a × (next s.automaton.transitions q a ≡ None)
MeetsAlong s path steps (Ended used) = IsEndOfPath s path steps used
MeetsAlong s path steps (NoChild at) = IsOffPath s path steps at
MeetsAlong s path steps Runs = ⊥

abbrev pub IsReplayAnswer : SortedData → List ℕ → ℕ → Replay → Type 0
IsReplayAnswer s path steps (Stuck a q at used) = MeetsAlong s path steps (Stuck a q at used)
IsReplayAnswer s path steps (Ended used) = MeetsAlong s path steps (Ended used)
IsReplayAnswer s path steps (NoChild at) = MeetsAlong s path steps (NoChild at)
IsReplayAnswer s path steps Runs = (met : Replay) → MeetsAlong s path steps met → ⊥

pub record IsFailureWithin (s : SortedData) (path : List ℕ) (steps : ℕ) (failing : FailingPathData) : Type 0 where
  pub fails : IsFailingPath s.scheme.rules s.automaton.transitions failing
  pub few : failing.used ≤ steps
  pub at : ℕ
  pub numbers : child_numbers failing.steps ≡ take at path

abbrev pub IsFailureAlong : SortedData → List ℕ → ℕ → Option FailingPathData → Type 0
IsFailureAlong s path steps None = (a q at used : ℕ) → MeetsAlong s path steps (Stuck a q at used) → ⊥
IsFailureAlong s path steps (Some failing) = IsFailureWithin s path steps failing
