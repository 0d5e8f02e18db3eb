-- The steps of a reduction that are kept, and where they lead.
use Rattle.std.proofs.Common.{◌≡◌, refl, sym, ◌∙◌, ap, ℕ, ◌+◌, ◌↔◌, List, [], ◌∷◌, ◌++◌, slice_get, Some, None, append-nil}
use Rattle.std.proofs.Common.{subst as along}
use Rattle.std.proofs.lemmas.List.{length_push}
use Rattle.std.proofs.lemmas.Grind.{flat_map-append}
use Rattle.hs_scheme.specs.declared.term.Head.{Head}
use Rattle.hs_scheme.specs.declared.term.Head.TheVariants.{Nt, Tm}
use Rattle.hs_scheme.specs.declared.term.Rule.{Rule}
use Rattle.hs_scheme.specs.acceptance.Transition.{TransitionData}
use Rattle.hs_scheme.specs.acceptance.Automaton.{next}
use Rattle.hs_scheme.specs.Tree.{Tree, forest}
use Rattle.hs_scheme.specs.acceptance.Cut.{unfolded}
use Rattle.hs_scheme.specs.acceptance.Run.{start}
use Rattle.hs_scheme.specs.acceptance.Steps.{Path, child_numbers}
use Rattle.hs_scheme.specs.acceptance.Failing.{IsFailingPath}
use Rattle.hs_scheme.specs.sorting.Sorted.{SortedData}
use Rattle.hs_reduce.specs.declared.answers.Replay.{Replay}
use Rattle.hs_reduce.specs.declared.answers.Replay.TheVariants.{Stuck}
use Rattle.hs_reduce.specs.declared.answers.ReductionStep.{ReductionStep}
use Rattle.hs_reduce.specs.declared.answers.ReductionStep.TheVariants.{Call, Descent}
use Rattle.hs_reduce.specs.declared.replaying.Progress.{Progress}
use Rattle.hs_reduce.specs.declared.trail.Trail.{Trail}
use Rattle.hs_reduce.specs.Graph.{term_at, head_of, arguments_of, NamesTerms}
use Rattle.hs_reduce.specs.Replays.{IsReplayAnswer}
use Rattle.hs_reduce.specs.Trace.{label_of, labels_of, IsStepOf, Traces, IsFailingTrace, IsTraceAlong}
use Rattle.hs_reduce.specs.Advances.{HasKnownSorts, IsReached, IsTraced, Keeps, EndsTrail}
use Rattle.hs_reduce.proofs.ReplayLemmas.{fails_at, fronted, step_down, goes_down, step_replaced, replaces}

pub labels_push : (all : List ReductionStep) (step : ReductionStep) → labels_of (all ++ step ∷ []) ≡ labels_of all ++ label_of step
labels_push all step = flat_map-append label_of all (step ∷ []) ∙ ap (λ xs. labels_of all ++ xs) (append-nil (label_of step))

module _ (rules : List Rule) (ts : List TransitionData) where
  traces_push : (all : List ReductionStep) (step : ReductionStep) (q p r : ℕ) (t u v : Tree Head) → Traces rules ts all q t p u → IsStepOf rules ts step p u r v
      → Traces rules ts (all ++ step ∷ []) q t r v
  traces_push [] step q p r t u v (is, are) s =
      (r, v, along (λ (x : ℕ). IsStepOf rules ts step x t r v) (sym is) (along (λ (x : Tree Head). IsStepOf rules ts step p x r v) (sym are) s), (refl, refl))
  traces_push (x ∷ xs) step q p r t u v (m, w, first, rest) s = (m, w, first, traces_push xs step m p r w u v rest s)

module _ (s : SortedData) (path : List ℕ) (all : List ReductionStep) (progress : Progress) (t : Tree Head) (is : IsTraced s path all progress t) where
  -- one more step
  stepped : (step : ReductionStep) (further : Progress) (u : Tree Head) → IsReached s path (labels_of all ++ label_of step) further u
      → IsStepOf s.scheme.rules s.automaton.transitions step progress.state t further.state u → further.used ≡ progress.used + 1 → IsTraced s path (all ++ step ∷ []) further u
  stepped step further u reached made one = record {
    at = along (λ (labels : Path). IsReached s path labels further u) (sym (labels_push all step)) reached;
    traces = traces_push s.scheme.rules s.automaton.transitions all step 0 progress.state further.state start t u is.traces made;
    count = length_push all step ∙ (ap (λ n. n + 1) is.count ∙ sym one);
  }

  module _ (sorted : HasKnownSorts s) where
    pub traced_replaced : (u : Tree Head) (f place : ℕ) → head_of t ≡ Nt f → unfolded s.scheme.rules f (arguments_of t) ≡ Some u
        → IsTraced s path (all ++ Call f ∷ []) (record { place = place; state = progress.state; at = progress.at; used = progress.used + 1 }) u
    traced_replaced u f place front e =
        stepped (Call f) (record { place = place; state = progress.state; at = progress.at; used = progress.used + 1 }) u (replaces s sorted path (labels_of all) progress t u f place is.at front e)
        (record { steps = step_replaced s sorted path progress.state f t u front e; names = front }) refl

    module _ (a : ℕ) (front : head_of t ≡ Tm a) where
      pub traced_end : next s.automaton.transitions progress.state a ≡ None → EndsTrail s path all (Stuck a progress.state progress.at progress.used)
      traced_end e =
          let ends = fails_at s sorted path (labels_of all) progress t a is.at front e in
          let there = along (λ (u : Tree Head). Traces s.scheme.rules s.automaton.transitions all 0 start progress.state u) (fronted s sorted path (labels_of all) progress t a is.at front) is.traces in (
            ends.0,
            ends.1,
            record { arguments = forest (arguments_of t); traces = there; stuck = e; labels = refl; count = is.count },
          )

      pub traced_down : (trees : List (Tree Head)) (places : List ℕ) → NamesTerms trees places (arguments_of t) → (to : List ℕ) → next s.automaton.transitions progress.state a ≡ Some to
          → (c : ℕ) → slice_get path progress.at ≡ Some c → (i place q : ℕ) → c ≡ i + 1 → slice_get places i ≡ Some place → slice_get to i ≡ Some q
          → IsTraced s path (all ++ Descent a c progress.state q ∷ []) (record { place = place; state = q; at = progress.at + 1; used = progress.used + 1 }) (term_at trees place)
      traced_down trees places named to e c at i place q is_number there in_state =
          stepped (Descent a c progress.state q) (record { place = place; state = q; at = progress.at + 1; used = progress.used + 1 }) (term_at trees place)
          (goes_down s sorted path (labels_of all) progress t a is.at front trees places named to e c at i place q is_number there in_state)
          (record { steps = step_down s sorted path (labels_of all) progress t a is.at front trees places named to e c at i place q is_number there in_state; names = (front, refl, refl) }) refl

-- the answer with what was kept, as a trace
pub traced : (s : SortedData) (path : List ℕ) (steps most a q at used : ℕ) (all : List ReductionStep) (trail : Trail) → Keeps most all trail → EndsTrail s path all (Stuck a q at used)
    → IsReplayAnswer s path steps (Stuck a q at used)
    → IsTraceAlong s path steps most (Some (record { path = record { steps = trail.labels.items; last = a; state = q; used = used }; steps = trail.steps }))
traced s path steps most a q at used all trail keeps ends is =
    let rules = s.scheme.rules in let ts = s.automaton.transitions in record {
      fails = record {
        fails = along (λ (labels : Path). IsFailingPath rules ts (record { steps = labels; last = a; state = q; used = used })) (sym keeps.labels) ends.0;
        few = is.0.in_time;
        at = at;
        numbers = ap child_numbers keeps.labels ∙ ends.1;
      };
      all = all;
      is = along (λ (labels : Path). IsFailingTrace rules ts all (record { steps = labels; last = a; state = q; used = used })) (sym keeps.labels) ends.2;
      first = keeps.steps;
    }

-- where something else is answered, there is none
pub no_trace : (s : SortedData) (path : List ℕ) (steps most : ℕ) (r : Replay) → ((answer : Replay) → (r ≡ answer) ↔ IsReplayAnswer s path steps answer)
    → ((a q at used : ℕ) → r ≡ Stuck a q at used → ⊥) → IsTraceAlong s path steps most None
no_trace s path steps most r exact other = λ a q at used met. other a q at used ((exact (Stuck a q at used)).1 met)
