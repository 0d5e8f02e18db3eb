use Rattle.std.proofs.Common.{sym, subst, []}
use Rattle.hs_scheme.specs.declared.term.Head.{Head}
use Rattle.hs_rules.specs.Heads.{AreHeads, AsksNothing}
use Rattle.hs_rules.proofs.SeedLemmas.{bodies_nothing, params_nothing}
use Rattle.hs_rules.proofs.sources.heads_nothing.Goals as goal

pub returns-in-Nt-clause-heads : goal.returns-in-Nt-clause-heads
returns-in-Nt-clause-heads c =
    let s = c.args.at.now in
    subst (λ (h : Head). AreHeads s.problem.now [] (record { rule = s.rule; head = h; args = c.args.at.now.search.args.now }) c.args.replica.now.ids AsksNothing c.args.out.now.items) (sym c.in-Nt.is)
    (bodies_nothing s.problem.now [] s.rule c.args.at.now.search.args.now c.args.replica.now.ids c.args.out.now.items c.in-Nt.field-0 c.requires.none)

pub returns-in-Var-clause-heads : goal.returns-in-Var-clause-heads
returns-in-Var-clause-heads c =
    let s = c.args.at.now in
    subst (λ (h : Head). AreHeads s.problem.now [] (record { rule = s.rule; head = h; args = c.args.at.now.search.args.now }) c.args.replica.now.ids AsksNothing c.args.out.now.items) (sym c.in-Var.is)
    (params_nothing s.problem.now [] s.rule c.args.at.now.search.args.now c.args.replica.now.ids c.args.out.now.items c.in-Var.field-0 c.requires.none)
