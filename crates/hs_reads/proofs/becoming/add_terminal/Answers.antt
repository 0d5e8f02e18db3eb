use Rattle.std.proofs.Common.{◌≡◌, sym, ◌∙◌, ap, subst, arith}
use Rattle.hs_scheme.specs.declared.term.Head.TheVariants.{Tm}
use Rattle.hs_scheme.specs.flow.Points.{point_at}
use Rattle.hs_scheme.specs.Problem.{ProblemData}
use Rattle.hs_reads.specs.Own.{IsBecoming}
use Rattle.hs_reads.proofs.GrowLemmas.{adds_none, adds_such}
use Rattle.hs_reads.proofs.BecomingLemmas.{becomes_first}
use Rattle.hs_reads.proofs.ReadLemmas.{point_is}
use Rattle.hs_reads.proofs.becoming.add_terminal.Goals as goal

pub returns-in_default-clause-only : goal.returns-in_default-clause-only
returns-in_default-clause-only c = adds_none (IsBecoming c.args.problem.now) c.args.found.now.keys

pub returns-clause-only : goal.returns-clause-only
returns-clause-only c =
    let p = c.args.problem.now in
    let f = c.args.pair.now in
    let a = c.in-Tm.terminal in
    let head = sym c.in-Tm.is ∙ (c.head_of.ensures.head ∙ ap (λ (z : ProblemData). (point_at z.points f.point).head) c.problem.view_is) in
    let args = (point_at p.points f.point).args in
    adds_such (λ d. d ≡ record { rule = f.rule; param = f.param; terminal = a; given = c.given_at-given.result }) (IsBecoming p) c.args.found.now.keys c.add.new.found.keys c.add.ensures.only
    (λ d e. subst (λ d. IsBecoming p d) (sym e)
    (subst (λ n. IsBecoming p (record { rule = f.rule; param = f.param; terminal = a; given = n })) (sym c.given_at-given.ensures.len)
    (becomes_first p f (point_at p.points f.point).rule a args c.requires.flows (point_is p f.point (Tm a) c.requires.point head))))

pub returns-clause-short : goal.returns-clause-short
returns-clause-short c = c.add.ensures.short (omega (arith, c.given_at-given.ensures.few))
