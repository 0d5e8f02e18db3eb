use Rattle.std.proofs.Common.{ap, subst, List, All, length}
use Rattle.hs_scheme.specs.declared.term.Rule.{Rule}
use Rattle.hs_scheme.specs.Problem.{FlowWithin, HeadWithin}
use Rattle.hs_scheme.specs.sorting.Sorted.{SortedData}
use Rattle.hs_front.proofs.problem.with_flow.Goals as goal

pub new-requires : goal.new-requires
new-requires c =
    let rules = ap (λ (s : SortedData). s.scheme.rules) c.sorted.view_is in
    record {
      points = c.requires.points;
      flows = subst (λ (rs : List Rule). All (FlowWithin rs (length c.args.points.points)) c.in-Ok.flow.pairs) rules c.in-Ok.ensures.pairs;
      heads = subst (λ (rs : List Rule). All (HeadWithin rs (length c.args.points.points)) c.in-Ok.flow.heads) rules c.in-Ok.ensures.heads;
    }
