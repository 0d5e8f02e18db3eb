-- the progress is reached within the steps, which the trail keeps
use Rattle.std.proofs.Common.{◌-◌, ◌<◌, ◌≤◌, List, length}
use Rattle.hs_reduce.specs.declared.answers.ReductionStep.{ReductionStep}
use Rattle.hs_reduce.specs.Graph.{term_at}
use Rattle.hs_reduce.specs.Advances.{IsTraced, Keeps}
use Rattle.hs_reduce.proofs.replaying.follow.Given as goal

abbrev pub invariant-loop-graph : goal.invariant-loop-graph
invariant-loop-graph l = record {
  in_time : l.progress.used ≤ l.steps;
  within : l.progress.place < length l.graph;
  at : (all : List ReductionStep) × Keeps l.most all l.trail × IsTraced l.sorted l.path all l.progress (term_at l.graph l.progress.place);
}

abbrev pub decreases-loop-graph : goal.decreases-loop-graph
decreases-loop-graph l = l.steps - l.progress.used
