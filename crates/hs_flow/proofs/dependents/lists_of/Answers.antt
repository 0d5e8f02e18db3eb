use Rattle.std.proofs.Common.{◌∙◌, arith}
use Rattle.hs_flow.proofs.DependentLemmas.{dependents_more, rises_more, has_dependents}
use Rattle.hs_flow.proofs.dependents.lists_of.Goals as goal

pub loop-point-preserved : goal.loop-point-preserved
loop-point-preserved c =
    let points = c.args.points.now in let flows = c.args.flow.now.pairs in let n = c.loop-point.point in
    record {
      long = c.in_ok-add_point.ensures.len ∙ c.loop-point.invariant.long;
      exact = dependents_more points flows n c.loop-point.lists c.add_point.new.lists c.in_ok-add_point.ensures c.loop-point.invariant.exact;
      ascending = rises_more points flows n c.loop-point.lists c.add_point.new.lists c.in_ok-add_point.ensures c.loop-point.invariant.exact c.loop-point.invariant.ascending;
    }

pub returns : goal.returns
returns c = has_dependents c.args.points.now c.args.flow.now.pairs c.loop-point.point c.loop-point.lists c.loop-point.invariant.long (omega arith) c.loop-point.invariant.exact c.loop-point.invariant.ascending
