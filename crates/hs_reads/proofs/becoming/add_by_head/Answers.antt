use Rattle.std.proofs.Common.{◌≡◌, refl, sym, ◌∙◌, ap, subst, ℕ, List, Contains}
use Rattle.std.proofs.lemmas.Result.{on_ok_weaker}
use Rattle.hs_scheme.specs.declared.term.Head.TheVariants.{Var}
use Rattle.hs_scheme.specs.declared.flow.FlowPair.{FlowPair}
use Rattle.hs_scheme.specs.flow.Points.{point_at}
use Rattle.hs_scheme.specs.sorting.Parameters.{IsParameter, parameter_of}
use Rattle.hs_scheme.specs.Problem.{ProblemData}
use Rattle.hs_reads.specs.Lists.{list_of}
use Rattle.hs_table_laws.proofs.Places.{within_from}
use Rattle.hs_reads.specs.Becomings.{IsHeadedBy, IsTold}
use Rattle.hs_reads.proofs.PushLemmas.{pushed_has, pushed_keeps, pushed_at}
use Rattle.hs_reads.proofs.ReadLemmas.{point_is}
use Rattle.hs_reads.proofs.BecomingLemmas.{parts_read, var_same}
use Rattle.hs_reads.proofs.becoming.add_by_head.Goals as goal

pub returns-clause-there : goal.returns-clause-there
returns-clause-there c = on_ok_weaker c.push.result (λ is rule x args at.
    let p = c.args.problem.now in
    let same = ap (λ (q : ProblemData). q.points) c.problem.view_is in
    let parts = parts_read p c.problem.inside.points same c.args.pair.point rule (Var x) args at in
    let param : c.in-Var.param ≡ x = var_same c.in-Var.param x (sym c.in-Var.is ∙ c.head_of.ensures.head ∙ parts.head_is) in
    let own : c.rule_of-rule.result ≡ rule = c.rule_of-rule.ensures.rule ∙ parts.rule_is in
    let counts : c.params.result.now ≡ p.points.params = c.params.ensures.params ∙ ap (λ (q : ProblemData). q.points.params) c.problem.view_is in
    let number : c.in-Some.number ≡ parameter_of p.points.params rule x = c.in-Some.ensures.number.1 ∙ (λ i. parameter_of (counts i) (own i) (param i)) in
    let there : IsParameter p.points.params rule x = subst (λ (ns : List ℕ). IsParameter ns rule x) counts
    (subst (λ (n : ℕ). IsParameter c.params.result.now n x) own (subst (λ (n : ℕ). IsParameter c.params.result.now c.rule_of-rule.result n) param c.in-Some.ensures.number.0)) in
    (there, (c.args.pair, (subst (λ (n : ℕ). Contains (list_of c.push.new.self n) c.args.pair) number (pushed_has c.in-Some.number c.args.pair c.args.lists.now c.push.new.self is), record { rule = refl; param = refl; long = refl })))) c.push.ensures.pushed

pub returns-clause-only : goal.returns-clause-only
returns-clause-only c = on_ok_weaker c.push.result (λ is.
    let p = c.args.problem.now in
    let f = c.args.pair in
    let own = (point_at p.points f.point).rule in
    let at = point_is p f.point (Var c.in-Var.param) c.requires.point (sym c.in-Var.is ∙ (c.head_of.ensures.head ∙ ap (λ (q : ProblemData). (point_at q.points f.point).head) c.problem.view_is)) in
    let rule : c.rule_of-rule.result ≡ own = c.rule_of-rule.ensures.rule ∙ ap (λ (q : ProblemData). (point_at q.points f.point).rule) c.problem.view_is in
    let counts : c.params.result.now ≡ p.points.params = c.params.ensures.params ∙ ap (λ (q : ProblemData). q.points.params) c.problem.view_is in
    let number : c.in-Some.number ≡ parameter_of p.points.params own c.in-Var.param = c.in-Some.ensures.number.1 ∙ (λ i. parameter_of (counts i) (rule i) c.in-Var.param) in
    let there : IsParameter p.points.params own c.in-Var.param = subst (λ (ns : List ℕ). IsParameter ns own c.in-Var.param) counts
    (subst (λ (n : ℕ). IsParameter c.params.result.now n c.in-Var.param) rule c.in-Some.ensures.number.0) in
    pushed_at c.in-Some.number f c.args.lists.now c.push.new.self is (λ (k : ℕ) (g : FlowPair). IsHeadedBy p k g)
    (record { rule = own; param = c.in-Var.param; is = there; number = number; headed = (c.requires.flows, ((point_at p.points f.point).args, at)) }) c.requires.only) c.push.ensures.pushed

pub returns-clause-kept : goal.returns-clause-kept
returns-clause-kept c = on_ok_weaker c.push.result (λ is. pushed_keeps c.in-Some.number c.args.pair c.args.lists.now c.push.new.self is) c.push.ensures.pushed

pub is_told-requires-clause-row : goal.is_told-requires-clause-row
is_told-requires-clause-row c = λ f m.
    let h = c.requires.only c.in-Some.number f (subst (λ (fs : List FlowPair). Contains fs f) c.list.ensures m) in
    within_from c.args.problem.now.points.points f.point (record { rule = h.rule; head = Var h.param; args = h.headed.1.0 }) h.headed.1.1

pub returns-then-is_told-clause-there : goal.returns-then-is_told-clause-there
returns-then-is_told-clause-there c = λ rule x args at.
    let p = c.args.problem.now in
    let same = ap (λ (q : ProblemData). q.points) c.problem.view_is in
    let parts = parts_read p c.problem.inside.points same c.args.pair.point rule (Var x) args at in
    let param : c.in-Var.param ≡ x = var_same c.in-Var.param x (sym c.in-Var.is ∙ c.head_of.ensures.head ∙ parts.head_is) in
    let own : c.rule_of-rule.result ≡ rule = c.rule_of-rule.ensures.rule ∙ parts.rule_is in
    let counts : c.params.result.now ≡ p.points.params = c.params.ensures.params ∙ ap (λ (q : ProblemData). q.points.params) c.problem.view_is in
    let number : c.in-Some.number ≡ parameter_of p.points.params rule x = c.in-Some.ensures.number.1 ∙ (λ i. parameter_of (counts i) (own i) (param i)) in
    let there : IsParameter p.points.params rule x = subst (λ (ns : List ℕ). IsParameter ns rule x) counts
    (subst (λ (n : ℕ). IsParameter c.params.result.now n x) own (subst (λ (n : ℕ). IsParameter c.params.result.now c.rule_of-rule.result n) param c.in-Some.ensures.number.0)) in
    (there, subst (λ (n : ℕ). IsTold p (list_of c.args.lists.now n) c.args.pair) number (subst (λ (fs : List FlowPair). IsTold p fs c.args.pair) c.list.ensures (c.is_told.ensures c.if-is_told.true)))
