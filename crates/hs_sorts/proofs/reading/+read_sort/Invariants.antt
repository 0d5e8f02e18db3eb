-- the arguments so far, and a node for what is left, which is no larger
use Rattle.std.proofs.Common.{◌≡◌, ◌<◌, ◌≤◌, length}
use Rattle.hs_sorts.specs.Nodes.{Valuation}
use Rattle.hs_sorts.specs.Measures.{IsReading}
use Rattle.hs_sorts.specs.Reading.{size_at}
use Rattle.hs_sorts.proofs.Readings.{with_arguments}
use Rattle.hs_sorts.proofs.reading.+read_sort.Given as goal

abbrev pub decreases-read_sort : goal.decreases-read_sort
decreases-read_sort l = size_at l.measures.now l.node

abbrev pub invariant-loop-argument : goal.invariant-loop-argument
invariant-loop-argument l = record {
  within : l.at < length l.store;
  smaller : size_at l.measures l.at ≤ size_at l.measures l.node;
  reads : (v : Valuation) → IsReading v l.store → v l.node ≡ with_arguments l.args.items (v l.at);
}

abbrev pub decreases-loop-argument : goal.decreases-loop-argument
decreases-loop-argument l = size_at l.measures l.at
