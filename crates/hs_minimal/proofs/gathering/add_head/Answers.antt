use Rattle.std.proofs.Common.{◌≡◌, sym, ◌∙◌, subst, ℕ}
use Rattle.std.proofs.lemmas.Result.{on_ok_weaker}
use Rattle.hs_scheme.specs.declared.flow.FlowPair.{FlowPair}
use Rattle.hs_scheme.specs.declared.term.Head.{Head}
use Rattle.hs_scheme.specs.declared.term.Head.TheVariants.{Var, Nt}
use Rattle.hs_scheme.specs.flow.Points.{point_at}
use Rattle.hs_scheme.specs.Problem.{ProblemData}
use Rattle.hs_minimal.specs.Following.{AddsRowsOf, IsHeadSource}
use Rattle.hs_minimal.proofs.GatheringLemmas.{adds_as, OfSome, body_source, flow_source}
use Rattle.hs_minimal.proofs.gathering.add_head.Goals as goal

pub returns-in-Nt : goal.returns-in-Nt
returns-in-Nt c =
    let g = c.args.growing.now in
    let q = c.problem-problem.result.now in
    let d = point_at q.points c.args.point in
    let f = c.in-Nt.rule in
    let b = c.body_of.result in
    let old = c.args.rows.now.items in
    let new = c.add_rows.new.rows.items in
    on_ok_weaker c.add_rows.result (λ adds.
    subst (λ (p : ProblemData). AddsRowsOf g (IsHeadSource p (point_at p.points c.args.point).rule (point_at p.points c.args.point).head) old new) c.problem-problem.ensures
    (subst (λ (h : Head). AddsRowsOf g (IsHeadSource q d.rule h) old new) (sym c.in-Nt.is ∙ c.head_at.ensures.head)
    (adds_as g (λ u. u ≡ b) (IsHeadSource q d.rule (Nt f)) (body_source q d.rule f b c.in-Nt.ensures.nonterminal c.body_of.ensures) old new adds))) c.add_rows.ensures

pub returns-in-Var : goal.returns-in-Var
returns-in-Var c =
    let g = c.args.growing.now in
    let q = c.problem-problem.result.now in
    let d = point_at q.points c.args.point in
    let x = c.in-Var.parameter in
    let pairs = c.flow_of-pairs.result.now in
    let old = c.args.rows.now.items in
    let new = c.add_flow.new.rows.items in
    on_ok_weaker c.add_flow.result (λ adds.
    subst (λ (p : ProblemData). AddsRowsOf g (IsHeadSource p (point_at p.points c.args.point).rule (point_at p.points c.args.point).head) old new) c.problem-problem.ensures
    (subst (λ (h : Head). AddsRowsOf g (IsHeadSource q d.rule h) old new) (sym c.in-Var.is ∙ c.head_at.ensures.head)
    (subst (λ (r : ℕ). AddsRowsOf g (IsHeadSource q r (Var x)) old new) c.rule_at.ensures
    (adds_as g (OfSome g (λ (f : FlowPair). f.point) pairs old pairs) (IsHeadSource q c.rule_at.result (Var x)) (flow_source q c.rule_at.result x pairs c.flow_of-pairs.ensures) old new adds)))) c.add_flow.ensures
