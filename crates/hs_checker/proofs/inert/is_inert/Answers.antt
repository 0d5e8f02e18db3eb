use Rattle.std.proofs.Common.{◌≡◌, refl, sym, ◌∙◌, ap, subst, ℕ, ◌<◌, List, ◌&&◌, nat_eq, filter, length, Contains}
use Rattle.std.proofs.lemmas.List.Elements.{All-contains}
use Rattle.hs_scheme.specs.declared.flow.FlowPair.{FlowPair}
use Rattle.hs_scheme.specs.flow.Points.{PointsData, point_at}
use Rattle.hs_scheme.specs.Problem.{ProblemData, FlowWithin}
use Rattle.hs_flow_checker.proofs.GapLemmas.{row_has}
use Rattle.hs_checker.proofs.inert.is_inert.Goals as goal

pub are_marked-requires : goal.are_marked-requires
are_marked-requires c = λ f there.
    let q = c.problem.inside in
    let held = ((row_has c.rule_of-rule.result c.in-Var.parameter q.flow.pairs f).0 (subst (λ (fs : List FlowPair). Contains fs f) c.flow_of.ensures.pairs there)).0 in
    let within = (All-contains (FlowWithin q.sorted.scheme.rules (length q.points.points)) q.flow.pairs f c.problem.invariant.flows held).point in
    let points = ap (λ (r : ProblemData). length r.points.points) c.problem.view_is in
    subst (λ (n : ℕ). f.point < n) (points ∙ sym c.requires.long) within

pub returns-in-Var : goal.returns-in-Var
returns-in-Var c = λ E silent marked.
    let p = c.args.problem.now in
    let points = ap (λ (r : ProblemData). r.points) c.problem.view_is in
    let own = point_at p.points c.args.point in
    let rule : c.rule_of-rule.result ≡ own.rule = subst (λ (x : PointsData). c.rule_of-rule.result ≡ (point_at x c.args.point).rule) points c.rule_of-rule.ensures.rule in
    let head : c.head_of.result ≡ own.head = subst (λ (x : PointsData). c.head_of.result ≡ (point_at x c.args.point).head) points c.head_of.ensures.head in
    let row : List FlowPair → ℕ → List FlowPair = λ fs r. filter (λ f. nat_eq f.rule r && nat_eq f.param c.in-Var.parameter) fs in
    let pairs : c.flow_of.result.now ≡ row p.flow.pairs own.rule = c.flow_of.ensures.pairs ∙ (λ i. row (ap (λ (r : ProblemData). r.flow.pairs) c.problem.view_is i) (rule i)) in
    record {
      parameter = c.in-Var.parameter;
      head = sym head ∙ c.in-Var.is;
      silent = λ u there.
          let f : FlowPair = record { rule = own.rule; param = c.in-Var.parameter; point = u } in
          let among = (row_has own.rule c.in-Var.parameter p.flow.pairs f).1 (there, (refl, refl)) in
          silent u (c.are_marked.ensures marked f (subst (λ (fs : List FlowPair). Contains fs f) (sym pairs) among));
    }
