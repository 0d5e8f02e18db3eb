use Rattle.std.proofs.Common.{ap, ◌<◌, length, arith, inl, inr}
use Rattle.hs_scheme.specs.Problem.{ProblemData}
use Rattle.hs_table_laws.proofs.Places.{within_from}
use Rattle.hs_table_plain.proofs.TableLemmas.{below_or_last}
use Rattle.hs_table_plain.proofs.table.missing.Goals as goal

pub loop-point-init : goal.loop-point-init
loop-point-init c = λ e lt f. absurd (omega arith)

pub returns-in-Some : goal.returns-in-Some
returns-in-Some c = (((c.in_ok-found.ensures.each c.in-Some.entry).0 c.in-Some.ensures.0).1, c.in-Some.ensures.1)

pub loop-point-preserved : goal.loop-point-preserved
loop-point-preserved c = λ e lt f. elim (below_or_last e.point c.loop-point.point lt) [
  | inl below ↦ c.loop-point.invariant e below f
  | inr same ↦ c.in-None.ensures e ((c.in_ok-found.ensures.each e).1 (same, f))
]

pub returns : goal.returns
returns c = λ e f.
    let points = ap (λ (q : ProblemData). length q.points.points) c.problem.view_is in
    let within = within_from c.args.problem.now.points.points e.point f.1.of f.1.at in
    let below : e.point < c.loop-point.point = omega (arith, points, within, c.count-point-end.ensures.points, c.loop-point-test.false) in
    c.loop-point.invariant e below f
