use Rattle.std.proofs.Common.{sym, ap, subst, length, arith}
use Rattle.std.proofs.lemmas.List.Elements.{Contains-get_or}
use Rattle.hs_scheme.specs.Problem.{ProblemData}
use Rattle.hs_reads.specs.Own.{AreAllPairs}
use Rattle.hs_minimal.proofs.spreading.settle_dependents.Goals as goal

pub settle_with-requires-clause-reads : goal.settle_with-requires-clause-reads
settle_with-requires-clause-reads c = subst (λ (p : ProblemData). AreAllPairs p c.args.reads.now) (sym c.loop-point.invariant.grown.problem) c.requires.reads

pub settle_with-requires-clause-point : goal.settle_with-requires-clause-point
settle_with-requires-clause-point c =
    let within = c.requires.points _ (Contains-get_or c.args.points.now c.loop-point.point-index 0 c.loop-point-test.true) in
    omega (arith, within, ap (λ (p : ProblemData). length p.points.points) c.loop-point.invariant.grown.problem)

pub settle_with-requires-clause-new : goal.settle_with-requires-clause-new
settle_with-requires-clause-new c = λ r m. c.loop-point.invariant.grown.keeps r (c.requires.new r m)
