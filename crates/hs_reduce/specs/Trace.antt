-- The reduction of the start along a path, step by step.
--     label_of         the label of a step, as a path
--     NamesFront       a replacement names the nonterminal in front of the term; a descent the terminal in front, and the states that are
--                      left and reached
--     IsStepOf         it is a step from this state and term to the next, and names what it is said to
--     Traces           some steps, one after another, from a state and term to the last
--     IsFailingTrace   so from the start to the last terminal of the path, which has no transition in its state; the labels are the path's
--     IsTraceAlong     the path that fails along the first of these child numbers, within so many steps, with the first `most` of its steps; or
--                      that there is none
use Rattle.std.specs.Prelude.{◌≡◌, ℕ, List, [], ◌∷◌, length, take, Option, Some, None}
use Rattle.std.specs.List.{flat_map}
use Rattle.hs_scheme.specs.declared.term.Head.{Head}
use Rattle.hs_scheme.specs.declared.term.Head.TheVariants.{Nt, Tm}
use Rattle.hs_scheme.specs.declared.term.Rule.{Rule}
use Rattle.hs_scheme.specs.acceptance.Transition.{TransitionData}
use Rattle.hs_scheme.specs.acceptance.Automaton.{next}
use Rattle.hs_scheme.specs.Tree.{Tree, Trees, node}
use Rattle.hs_scheme.specs.acceptance.Run.{start}
use Rattle.hs_scheme.specs.acceptance.Steps.{Path, StepsTo}
use Rattle.hs_scheme.specs.acceptance.FailingPath.{FailingPathData}
use Rattle.hs_scheme.specs.sorting.Sorted.{SortedData}
use Rattle.hs_reduce.specs.declared.answers.Replay.TheVariants.{Stuck}
use Rattle.hs_reduce.specs.declared.answers.ReductionStep.{ReductionStep}
use Rattle.hs_reduce.specs.declared.answers.ReductionStep.TheVariants.{Call, Descent}
use Rattle.hs_reduce.specs.declared.answers.Trace.{Trace}
use Rattle.hs_reduce.specs.Graph.{head_of}
use Rattle.hs_reduce.specs.Replays.{MeetsAlong, IsFailureWithin}

abbrev pub label_of : ReductionStep → Path
label_of (Call rule) = []
label_of (Descent terminal child from to) = (terminal, child) ∷ []

abbrev pub labels_of : List ReductionStep → Path
labels_of steps = flat_map label_of steps

abbrev pub NamesFront : ReductionStep → ℕ → Tree Head → ℕ → Type 0
NamesFront (Call rule) q t p = head_of t ≡ Nt rule
NamesFront (Descent terminal child from to) q t p = (head_of t ≡ Tm terminal) × (from ≡ q) × (to ≡ p)

module _ (rules : List Rule) (ts : List TransitionData) where
  pub record IsStepOf (step : ReductionStep) (q : ℕ) (t : Tree Head) (p : ℕ) (u : Tree Head) : Type 0 where
    pub steps : StepsTo rules ts q t (label_of step) p u
    pub names : NamesFront step q t p

  abbrev pub Traces : List ReductionStep → ℕ → Tree Head → ℕ → Tree Head → Type 0
  Traces [] q t p u = (q ≡ p) × (t ≡ u)
  Traces (step ∷ steps) q t p u = (r : ℕ) × (v : Tree Head) × IsStepOf step q t r v × Traces steps r v p u

  pub record IsFailingTrace (steps : List ReductionStep) (path : FailingPathData) : Type 0 where
    pub arguments : Trees Head
    pub traces : Traces steps 0 start path.state (node (Tm path.last) arguments)
    pub stuck : next ts path.state path.last ≡ None
    pub labels : labels_of steps ≡ path.steps
    pub count : length steps ≡ path.used

pub record IsTraceWithin (s : SortedData) (path : List ℕ) (steps most : ℕ) (trace : Trace) : Type 0 where
  pub fails : IsFailureWithin s path steps trace.path
  pub all : List ReductionStep
  pub is : IsFailingTrace s.scheme.rules s.automaton.transitions all trace.path
  pub first : trace.steps.items ≡ take most all

abbrev pub IsTraceAlong : SortedData → List ℕ → ℕ → ℕ → Option Trace → Type 0
IsTraceAlong s path steps most None = (a q at used : ℕ) → MeetsAlong s path steps (Stuck a q at used) → ⊥
IsTraceAlong s path steps most (Some trace) = IsTraceWithin s path steps most trace
