use Rattle.std.proofs.Common.{◌∙◌, ap, subst, arith, ◌∷◌, [], ◌++◌}
use Rattle.hs_scheme.specs.Scheme.{IsScheme}
use Rattle.hs_scheme.specs.sorting.Sorted.{SortedData, IsSorted}
use Rattle.hs_reduce.specs.declared.answers.Replay.TheVariants.{Runs}
use Rattle.hs_reduce.specs.declared.replaying.Advance.{Advance}
use Rattle.hs_reduce.specs.Graph.{term_at}
use Rattle.hs_reduce.specs.Trace.{labels_of}
use Rattle.hs_reduce.specs.Advances.{HasKnownSorts, Advances}
use Rattle.hs_reduce.proofs.ReplayLemmas.{has_sorting, exactly, met_answer, nothing_at_rest, nothing_in_time, by_children}
use Rattle.hs_reduce.proofs.replaying.follow.Goals as goal

pub returns-in-Met : goal.returns-in-Met
returns-in-Met c =
    let s = c.args.sorted.now in let path = c.args.path.now in let steps = c.args.steps in
    let scheme_is = c.scheme.view_is ∙ ap (λ (x : SortedData). x.scheme) c.sorted.view_is in
    let sorted : HasKnownSorts s = has_sorting s (subst IsSorted c.sorted.view_is c.sorted.invariant) (subst IsScheme scheme_is c.scheme.invariant) in
    let progress = c.loop-graph.progress in let all = c.loop-graph.invariant.at.0 in
    let met =
    subst (λ (x : Advance). Advances s path all progress (term_at c.loop-graph.graph progress.place) c.next_step.new.graph x) c.in-Met.is
    (c.in_ok-answer.ensures all c.loop-graph.invariant.at.2) in
    record {
      answer = exactly s sorted path steps c.in-Met.answer (met_answer s sorted path steps c.in-Met.answer (met.1 steps c.loop-graph.invariant.in_time));
      trail = (all, c.loop-graph.invariant.at.1, met.0);
    }

pub returns-in-Stays : goal.returns-in-Stays
returns-in-Stays c =
    let s = c.args.sorted.now in let path = c.args.path.now in let steps = c.args.steps in
    let scheme_is = c.scheme.view_is ∙ ap (λ (x : SortedData). x.scheme) c.sorted.view_is in
    let sorted : HasKnownSorts s = has_sorting s (subst IsSorted c.sorted.view_is c.sorted.invariant) (subst IsScheme scheme_is c.scheme.invariant) in
    let progress = c.loop-graph.progress in let t = term_at c.loop-graph.graph progress.place in let all = c.loop-graph.invariant.at.0 in
    let rests =
    subst (λ (x : Advance). Advances s path all progress t c.next_step.new.graph x) c.in-Stays.is (c.in_ok-answer.ensures all c.loop-graph.invariant.at.2) in
    record {
      answer = exactly s sorted path steps Runs (nothing_at_rest s sorted path steps progress.used progress.at progress.state t (by_children s sorted path (labels_of all) progress t c.loop-graph.invariant.at.2.at) rests);
      trail = (all, c.loop-graph.invariant.at.1, tt);
    }

pub returns-then-progress-steps : goal.returns-then-progress-steps
returns-then-progress-steps c =
    let s = c.args.sorted.now in let path = c.args.path.now in let steps = c.args.steps in
    let scheme_is = c.scheme.view_is ∙ ap (λ (x : SortedData). x.scheme) c.sorted.view_is in
    let sorted : HasKnownSorts s = has_sorting s (subst IsSorted c.sorted.view_is c.sorted.invariant) (subst IsScheme scheme_is c.scheme.invariant) in
    let progress = c.loop-graph.progress in let new = c.next_step.new.graph in let all = c.loop-graph.invariant.at.0 in
    let further = c.in-Moved.further in let on = labels_of (all ++ c.in-Moved.step ∷ []) in
    let moved =
    subst (λ (x : Advance). Advances s path all progress (term_at c.loop-graph.graph progress.place) new x) c.in-Moved.is
    (c.in_ok-answer.ensures all c.loop-graph.invariant.at.2) in
    record {
      answer =
          exactly s sorted path steps Runs
          (nothing_in_time s sorted path steps further.used further.at further.state (term_at new further.place)
          (by_children s sorted path on further (term_at new further.place) moved.2.at) (omega (arith, moved.0, c.if-progress-steps.true)));
      trail = (all, c.loop-graph.invariant.at.1, tt);
    }
