use Rattle.std.proofs.Common.{◌≡◌, ap, subst, length, Contains, ◌↔◌}
use Rattle.std.proofs.lemmas.Result.{IfOk-weaker}
use Rattle.hs_scheme.specs.flow.Points.{PointsData, point_at, NonterminalWithin}
use Rattle.hs_scheme.specs.Problem.{ProblemData}
use Rattle.hs_table.specs.Types.{TypeTree}
use Rattle.hs_table.specs.Tables.{IsInstance}
use Rattle.hs_checker.specs.Numbers.{entries_of, trees_of, AreTypes}
use Rattle.hs_checker.proofs.InstanceLemmas.{instance_exact}
use Rattle.hs_checker.proofs.NumberLemmas.{same_there, types_among}
use Rattle.hs_checker.proofs.instances.instances.Goals as goal

pub fitting_types-requires-clause-head : goal.fitting_types-requires-clause-head
fitting_types-requires-clause-head c = subst (λ (x : PointsData). NonterminalWithin (length x.bodies) c.head_of-head.result) (ap (λ (q : ProblemData). q.points) c.problem.view_is) c.head_of-head.ensures.within

pub returns-clause-range : goal.returns-clause-range
returns-clause-range c =
    IfOk-weaker c.in_order.result _ (λ found. AreTypes c.fitting_types.new.types found.items)
    (λ found each. types_among c.fitting_types.new.types found.items c.in_ok-found.found.items (λ t. (each t).0) c.in_ok-found.ensures.range) c.in_order.ensures.each

pub returns-clause-each : goal.returns-clause-each
returns-clause-each c =
    let p = c.args.problem.now in
    let J = c.fitting_types.new.types in
    let E = entries_of c.args.types.now c.args.index.now in
    let points = ap (λ (q : ProblemData). q.points) c.problem.view_is in
    let exact = instance_exact p E c.requires.shape c.args.point c.rule_of-rule.result c.head_of-head.result c.args_of-args.result.now c.requires.point
    (subst (λ (x : PointsData). c.rule_of-rule.result ≡ (point_at x c.args.point).rule) points c.rule_of-rule.ensures.rule)
    (subst (λ (x : PointsData). c.head_of-head.result ≡ (point_at x c.args.point).head) points c.head_of-head.ensures.head)
    (subst (λ (x : PointsData). c.args_of-args.result.now ≡ (point_at x c.args.point).args) points c.args_of-args.ensures.args)
    (subst (λ (x : PointsData). NonterminalWithin (length x.bodies) c.head_of-head.result) points c.head_of-head.ensures.within) in
    IfOk-weaker c.in_order.result _ (λ found. (t : TypeTree) → Contains (trees_of J found.items) t ↔ IsInstance p E c.args.point t)
    (λ found each t.
    let same = same_there J found.items c.in_ok-found.found.items each t in
    let own = c.in_ok-found.ensures.each t in
    (λ k. (exact t).0 (own.0 (same.0 k)), λ h. same.1 (own.1 ((exact t).1 h)))) c.in_order.ensures.each
