use Rattle.std.proofs.Common.{◌≡◌, sym, ◌∙◌, ap, subst, ℕ, List, Option, filter, ◌&&◌, nat_eq, Contains}
use Rattle.std.specs.Prelude.{SomeIff}
use Rattle.std.proofs.lemmas.Result.{on_ok_weaker}
use Rattle.hs_scheme.specs.declared.flow.FlowPair.{FlowPair}
use Rattle.hs_scheme.specs.sorting.Parameters.{IsParameter, parameter_of}
use Rattle.hs_scheme.specs.Problem.{ProblemData}
use Rattle.hs_weak.specs.Reads.{FlowsTo}
use Rattle.hs_reads.specs.ByPoint.{pairs_by_point}
use Rattle.hs_reads.specs.Pairs.{AreHanded}
use Rattle.hs_reads.proofs.GrowLemmas.{both_ok, adds_such}
use Rattle.hs_reads.proofs.HeadLemmas.{in_row}
use Rattle.hs_reads.proofs.HandedLemmas.{handed_more, row_flows}
use Rattle.hs_reads.proofs.reading.hand_on.Goals as goal

pub returns-then-not-branch-clause-handed : goal.returns-then-not-branch-clause-handed
returns-then-not-branch-clause-handed c =
    subst (λ (hs : List (ℕ × ℕ)). AreHanded c.args.problem.now hs c.args.found.now.pairs) (sym (c.in_ok-add_state.ensures.kept c.if-not-branch.true)) c.requires.handed

pub returns-then-not-branch-clause-there : goal.returns-then-not-branch-clause-there
returns-then-not-branch-clause-there c = λ v flows.
    let p = c.args.problem.now in
    let rule = c.args.rule in
    let x = c.args.param in
    let q = c.args.state in
    let counts : c.params.result.now ≡ p.points.params = c.params.ensures.params ∙ ap (λ (z : ProblemData). z.points.params) c.problem.view_is in
    let some = subst (λ (o : Option ℕ). SomeIff o (IsParameter c.params.result.now rule x) (parameter_of c.params.result.now rule x)) c.unwrap-number.ensures c.number.ensures.number in
    let number : c.unwrap-number.result ≡ parameter_of p.points.params rule x = some.1 ∙ ap (λ (ns : List ℕ). parameter_of ns rule x) counts in
    c.requires.handed rule x v q c.requires.parameter
    (subst (λ (n : ℕ). Contains (pairs_by_point c.args.handed.now.items) (n, q)) number (c.in_ok-add_state.ensures.there c.if-not-branch.true)) flows

pub returns-clause-handed : goal.returns-clause-handed
returns-clause-handed c =
    let p = c.args.problem.now in
    let rule = c.args.rule in
    let x = c.args.param in
    let q = c.args.state in
    let counts : c.params.result.now ≡ p.points.params = c.params.ensures.params ∙ ap (λ (z : ProblemData). z.points.params) c.problem.view_is in
    let some = subst (λ (o : Option ℕ). SomeIff o (IsParameter c.params.result.now rule x) (parameter_of c.params.result.now rule x)) c.unwrap-number.ensures c.number.ensures.number in
    let number : c.unwrap-number.result ≡ parameter_of p.points.params rule x = some.1 ∙ ap (λ (ns : List ℕ). parameter_of ns rule x) counts in
    let row : c.flow_of.result.now ≡ filter (λ (f : FlowPair). nat_eq f.rule rule && nat_eq f.param x) p.flow.pairs =
    c.flow_of.ensures.pairs ∙ ap (λ (z : ProblemData). filter (λ (f : FlowPair). nat_eq f.rule rule && nat_eq f.param x) z.flow.pairs) c.problem.view_is in
    both_ok c.add_points.result (λ gains there.
    handed_more p rule x c.unwrap-number.result q (pairs_by_point c.args.handed.now.items) (pairs_by_point c.add_state.new.rows.items) c.args.found.now.pairs c.add_points.new.found.pairs
    c.requires.parameter number (c.in_ok-add_state.ensures.more c.if-not-branch.false) gains.kept c.requires.handed
    (λ v flows. there (record { rule = rule; param = x; point = v })
    (subst (λ (fs : List FlowPair). Contains fs (record { rule = rule; param = x; point = v })) (sym row) (in_row p.flow.pairs rule x v flows))))
    c.add_points.ensures.gains c.add_points.ensures.there

pub returns-clause-there : goal.returns-clause-there
returns-clause-there c =
    let p = c.args.problem.now in
    let rule = c.args.rule in
    let x = c.args.param in
    let q = c.args.state in
    let row : c.flow_of.result.now ≡ filter (λ (f : FlowPair). nat_eq f.rule rule && nat_eq f.param x) p.flow.pairs =
    c.flow_of.ensures.pairs ∙ ap (λ (z : ProblemData). filter (λ (f : FlowPair). nat_eq f.rule rule && nat_eq f.param x) z.flow.pairs) c.problem.view_is in
    on_ok_weaker c.add_points.result (λ there v flows. there (record { rule = rule; param = x; point = v })
    (subst (λ (fs : List FlowPair). Contains fs (record { rule = rule; param = x; point = v })) (sym row) (in_row p.flow.pairs rule x v flows)))
    c.add_points.ensures.there

pub returns-clause-only : goal.returns-clause-only
returns-clause-only c =
    let p = c.args.problem.now in
    let rule = c.args.rule in
    let x = c.args.param in
    let q = c.args.state in
    let row : c.flow_of.result.now ≡ filter (λ (f : FlowPair). nat_eq f.rule rule && nat_eq f.param x) p.flow.pairs =
    c.flow_of.ensures.pairs ∙ ap (λ (z : ProblemData). filter (λ (f : FlowPair). nat_eq f.rule rule && nat_eq f.param x) z.flow.pairs) c.problem.view_is in
    adds_such (λ (y : ℕ × ℕ). (f : FlowPair) × (Contains c.flow_of.result.now f × (y ≡ (f.point, q)))) (λ (y : ℕ × ℕ). FlowsTo p rule x y.0 × (y.1 ≡ q))
    c.args.found.now.pairs c.add_points.new.found.pairs c.add_points.ensures.only (row_flows p rule x q c.flow_of.result.now row)
