use Rattle.std.proofs.Common.{sym, ap, subst, length, arith}
use Rattle.hs_scheme.specs.Problem.{ProblemData}
use Rattle.hs_reads.specs.Own.{AreAllPairs}
use Rattle.hs_minimal.proofs.SettlingLemmas.{grown_then, below_next, below_all}
use Rattle.hs_minimal.proofs.settling.settle_each.Goals as goal

pub settle-requires-clause-reads : goal.settle-requires-clause-reads
settle-requires-clause-reads c = subst (λ (p : ProblemData). AreAllPairs p c.args.reads.now) (sym c.loop-point.invariant.grown.problem) c.requires.reads

pub loop-point-preserved : goal.loop-point-preserved
loop-point-preserved c =
    let f = c.args.growing.now in
    let g = c.loop-point.growing in
    let new = c.settle.new.growing in
    let h = c.loop-point.invariant in
    let then = c.in_ok-settle.ensures.grown in
    record {
      growing = c.in_ok-settle.ensures.growing;
      grown = grown_then c.args.types.now c.loop-point.types c.settle.new.types f g new h.grown then;
      settled = below_next c.loop-point.types c.settle.new.types f g new c.loop-point.point h.growing then.numbers h.grown.longer then.longer h.grown.budget h.settled c.in_ok-settle.ensures.settled;
    }

pub returns-clause-settled : goal.returns-clause-settled
returns-clause-settled c =
    let count = λ (p : ProblemData). length p.points.points in
    below_all c.loop-point.types c.args.growing.now c.loop-point.growing c.loop-point.point
    (omega (arith, c.loop-point-test.false, c.count-point-end.ensures.points, ap count c.behind-growing.view_is, ap count c.problem.ensures, ap count c.loop-point.invariant.grown.problem)) c.loop-point.invariant.settled
