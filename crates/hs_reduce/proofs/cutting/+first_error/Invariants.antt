-- each search is one step shorter; the children so far are read to their ends
use Rattle.std.proofs.Common.{◌≡◌, ◌-◌, map, drop}
use Rattle.hs_scheme.specs.Tree.{forest}
use Rattle.hs_scheme.specs.acceptance.Cut.{cut}
use Rattle.hs_scheme.specs.acceptance.Run.{runs}
use Rattle.hs_reduce.specs.Graph.{terms_at, GrowsTrees}
use Rattle.hs_reduce.proofs.cutting.+first_error.Given as goal

abbrev pub decreases-first_error : goal.decreases-first_error
decreases-first_error l = l.n

abbrev pub invariant-loop-index : goal.invariant-loop-index
invariant-loop-index l =
    let trees = map (cut l.sorted.scheme.rules (l.n - 1)) (terms_at l.initial.graph l.args.items) in
    record {
      grows : GrowsTrees l.initial.graph l.graph;
      rest : runs l.sorted.automaton.transitions (forest (drop l.index trees)) (drop l.index l.to) ≡ runs l.sorted.automaton.transitions (forest trees) l.to;
    }
