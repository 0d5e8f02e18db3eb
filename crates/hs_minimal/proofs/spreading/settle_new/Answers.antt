use Rattle.std.proofs.Common.{sym, ap, subst, length, arith}
use Rattle.std.proofs.lemmas.List.Elements.{Contains-get_or}
use Rattle.hs_scheme.specs.Problem.{ProblemData}
use Rattle.hs_reads.specs.Own.{AreAllPairs}
use Rattle.hs_minimal.proofs.SettlingLemmas.{dependent_within}
use Rattle.hs_minimal.proofs.spreading.settle_new.Goals as goal

pub list-above-requires : goal.list-above-requires
list-above-requires c =
    let within = c.requires.points _ (Contains-get_or c.args.points.now c.loop-point.point-index 0 c.loop-point-test.true) in
    omega (arith, within, c.requires.dependents.each)

pub settle_dependents-requires-clause-reads : goal.settle_dependents-requires-clause-reads
settle_dependents-requires-clause-reads c = subst (λ (p : ProblemData). AreAllPairs p c.args.reads.now) (sym c.loop-point.invariant.grown.problem) c.requires.reads

pub settle_dependents-requires-clause-points : goal.settle_dependents-requires-clause-points
settle_dependents-requires-clause-points c = λ u m.
    let within = dependent_within c.args.growing.now.problem c.args.dependents.now c.requires.dependents _ c.list-above.result.now c.list-above.ensures u m in
    omega (arith, within, ap (λ (p : ProblemData). length p.points.points) c.loop-point.invariant.grown.problem)

pub settle_dependents-requires-clause-new : goal.settle_dependents-requires-clause-new
settle_dependents-requires-clause-new c = λ r m. c.loop-point.invariant.grown.keeps r (c.requires.new r ((c.rows_at-own.ensures r).0 m).0)
