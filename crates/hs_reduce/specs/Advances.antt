-- One step of a reduction along a path; only private contracts cite it.
--     IsReached      a reduction comes so far from the start along the labels, after its numbers of children and steps
--     IsTraced       so along the labels of the steps, which lead there one after another
--     Keeps          what is kept of all steps: their labels, and the first of them
--     HasNoStep      no terminal is in front, and there is no step
--     EndsTrail      the steps lead to what was met, where that is a terminal without transition
--     Advances       what comes of going on from there
use Rattle.std.specs.Prelude.{◌≡◌, ℕ, ◌+◌, ◌<◌, ◌≤◌, List, [], ◌∷◌, ◌++◌, length, take}
use Rattle.hs_scheme.specs.declared.term.Head.{Head}
use Rattle.hs_scheme.specs.declared.term.Head.TheVariants.{Tm}
use Rattle.hs_scheme.specs.Tree.{Tree, Trees, node}
use Rattle.hs_scheme.specs.acceptance.Run.{start}
use Rattle.hs_scheme.specs.acceptance.Steps.{Path, StepsTo, Reaches, child_numbers}
use Rattle.hs_scheme.specs.acceptance.Failing.{IsFailingPath}
use Rattle.hs_scheme.specs.sorting.Sorted.{SortedData, known, sorts_of}
use Rattle.hs_scheme.specs.TreeTerms.{AreSortedBy}
use Rattle.hs_reduce.specs.declared.answers.Replay.{Replay}
use Rattle.hs_reduce.specs.declared.answers.Replay.TheVariants.{Stuck}
use Rattle.hs_reduce.specs.declared.replaying.Progress.{Progress}
use Rattle.hs_reduce.specs.declared.replaying.Advance.{Advance}
use Rattle.hs_reduce.specs.declared.replaying.Advance.TheVariants.{Met, Stays, Moved}
use Rattle.hs_reduce.specs.declared.answers.ReductionStep.{ReductionStep}
use Rattle.hs_reduce.specs.declared.trail.Trail.{Trail}
use Rattle.hs_reduce.specs.Trace.{labels_of, Traces, IsFailingTrace}
use Rattle.hs_reduce.specs.Graph.{term_at}
use Rattle.hs_reduce.specs.Replays.{MeetsAlong}

-- all that the types keep of a sorted scheme, as the laws of steps want it
abbrev pub HasKnownSorts : SortedData → Type 0
HasKnownSorts s = AreSortedBy s.scheme.rules (length s.scheme.ranks) (known s.scheme.ranks) s.automaton.transitions (sorts_of s.sorts s.scheme.ranks)

pub record IsReached (s : SortedData) (path : List ℕ) (trail : Path) (progress : Progress) (t : Tree Head) : Type 0 where
  pub on_path : progress.at ≤ length path
  pub numbers : child_numbers trail ≡ take progress.at path
  pub reached : Reaches s.scheme.rules s.automaton.transitions progress.used 0 start trail progress.state t

pub record IsTraced (s : SortedData) (path : List ℕ) (all : List ReductionStep) (progress : Progress) (t : Tree Head) : Type 0 where
  pub at : IsReached s path (labels_of all) progress t
  pub traces : Traces s.scheme.rules s.automaton.transitions all 0 start progress.state t
  pub count : length all ≡ progress.used

pub record Keeps (most : ℕ) (all : List ReductionStep) (trail : Trail) : Type 0 where
  pub labels : trail.labels.items ≡ labels_of all
  pub steps : trail.steps.items ≡ take most all

pub record HasNoStep (s : SortedData) (q : ℕ) (t : Tree Head) : Type 0 where
  pub no_terminal : (a : ℕ) (us : Trees Head) → t ≡ node (Tm a) us → ⊥
  pub no_step : (p : ℕ) (u : Tree Head) (label : Path) → StepsTo s.scheme.rules s.automaton.transitions q t label p u → ⊥

abbrev pub EndsTrail : SortedData → List ℕ → List ReductionStep → Replay → Type 0
EndsTrail s path all (Stuck a q at used) =
    IsFailingPath s.scheme.rules s.automaton.transitions (record { steps = labels_of all; last = a; state = q; used = used })
    × (child_numbers (labels_of all) ≡ take at path)
    × IsFailingTrace s.scheme.rules s.automaton.transitions all (record { steps = labels_of all; last = a; state = q; used = used })
EndsTrail s path all answer = Unit {0}

abbrev pub Advances : SortedData → List ℕ → List ReductionStep → Progress → Tree Head → List (Tree Head) → Advance → Type 0
Advances s path all progress t trees (Met answer) = EndsTrail s path all answer × ((steps : ℕ) → progress.used ≤ steps → MeetsAlong s path steps answer)
Advances s path all progress t trees Stays = HasNoStep s progress.state t
Advances s path all progress t trees (Moved step further) =
    (further.used ≡ progress.used + 1) × (further.place < length trees) × IsTraced s path (all ++ step ∷ []) further (term_at trees further.place)
