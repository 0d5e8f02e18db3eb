use Rattle.std.proofs.Common.{◌≡◌, ap, subst, List, All, length}
use Rattle.hs_scheme.specs.declared.term.Rule.{Rule}
use Rattle.hs_scheme.specs.sorting.Sorted.{SortedData}
use Rattle.hs_scheme.specs.flow.Points.{points_of}
use Rattle.hs_scheme.specs.Problem.{FlowWithin, HeadWithin}
use Rattle.hs_fixtures.proofs.making.of_sorted.Goals as goal

pub new-requires : goal.new-requires
new-requires c =
    let same = ap (λ (s : SortedData). s.scheme.rules) c.sorted.view_is in
    record {
      points = subst (λ (rules : List Rule). c.in-Ok.points ≡ points_of rules) same c.in-Ok.ensures.points;
      flows = subst (λ (rules : List Rule). All (FlowWithin rules (length c.in-Ok.points.points)) c.in-Ok-analyse.flow.pairs) same c.in-Ok-analyse.ensures.pairs;
      heads = subst (λ (rules : List Rule). All (HeadWithin rules (length c.in-Ok.points.points)) c.in-Ok-analyse.flow.heads) same c.in-Ok-analyse.ensures.heads;
    }
