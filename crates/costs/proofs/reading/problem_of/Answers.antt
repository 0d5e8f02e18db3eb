use Rattle.std.proofs.Common.{◌∙◌, ap, subst, List, All, length}
use Rattle.hs_scheme.specs.declared.term.Rule.{Rule}
use Rattle.hs_scheme.specs.flow.Points.{points_of}
use Rattle.hs_scheme.specs.Problem.{FlowWithin, HeadWithin}
use Rattle.hs_scheme.specs.sorting.Sorted.{SortedData}
use Rattle.costs.proofs.reading.problem_of.Goals as goal

pub new-requires : goal.new-requires
new-requires c =
    let rules = ap (λ (s : SortedData). s.scheme.rules) c.sorted.view_is in
    record {
      points = c.in-Ok.ensures.points ∙ ap points_of rules;
      flows = subst (λ (rs : List Rule). All (FlowWithin rs (length c.in-Ok.points.points)) c.in-Ok-analyse.flow.pairs) rules c.in-Ok-analyse.ensures.pairs;
      heads = subst (λ (rs : List Rule). All (HeadWithin rs (length c.in-Ok.points.points)) c.in-Ok-analyse.flow.heads) rules c.in-Ok-analyse.ensures.heads;
    }
