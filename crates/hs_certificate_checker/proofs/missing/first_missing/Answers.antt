use Rattle.std.proofs.Common.{refl, sym, ◌∙◌, ap, subst, length, arith}
use Rattle.hs_scheme.specs.flow.Points.{PointsData}
use Rattle.hs_scheme.specs.Problem.{ProblemData}
use Rattle.hs_types.proofs.Numbers.{Grows-refl, Grows-trans}
use Rattle.hs_void.specs.Voids.{BasisData}
use Rattle.hs_certificate_checker.proofs.AmongLemmas.{ToldOfPoint, no_point, point_more, point_open, points_all}
use Rattle.hs_certificate_checker.proofs.missing.first_missing.Goals as goal

pub loop-point-init : goal.loop-point-init
loop-point-init c = record {
  grows = Grows-refl c.args.types.now;
  fits = c.requires.fits;
  basis = refl;
  settled = no_point c.args.voids.now.basis c.args.problem.now c.args.reads.now c.args.types.now;
}

pub open_at-requires-clause-problem : goal.open_at-requires-clause-problem
open_at-requires-clause-problem c = c.requires.problem ∙ ap (λ (b : BasisData). b.problem) (sym c.loop-point.invariant.basis)

pub open_at-requires-clause-table : goal.open_at-requires-clause-table
open_at-requires-clause-table c = c.requires.table ∙ ap (λ (b : BasisData). b.table) (sym c.loop-point.invariant.basis)

pub open_at-requires-clause-point : goal.open_at-requires-clause-point
open_at-requires-clause-point c =
    let points = ap (λ (q : ProblemData). q.points) c.problem.view_is in
    omega (arith, c.count-point-end.ensures.points, ap (λ (x : PointsData). length x.points) points, c.loop-point-test.true)

pub loop-point-preserved : goal.loop-point-preserved
loop-point-preserved c =
    let b = c.args.voids.now.basis in
    let J = c.loop-point.types in
    let K = c.open_at.new.types in
    let told = subst (λ (d : BasisData). ToldOfPoint d c.args.problem.now c.args.reads.now c.args.types.now J K c.loop-point.point c.in_ok-row.field-0) c.loop-point.invariant.basis c.in_ok-row.ensures.opened in
    record {
      grows = Grows-trans c.args.types.now J K c.loop-point.invariant.grows c.in_ok-row.ensures.grows;
      fits = c.in_ok-row.ensures.fits;
      basis = c.open_at.ensures.basis ∙ c.loop-point.invariant.basis;
      settled = point_more b c.args.problem.now c.args.reads.now c.args.types.now J K c.loop-point.invariant.grows c.loop-point.point c.in_ok-row.field-0 told c.in_default.not-Some c.loop-point.invariant.settled;
    }

pub returns-in-Some : goal.returns-in-Some
returns-in-Some c =
    let b = c.args.voids.now.basis in
    let J = c.loop-point.types in
    let K = c.open_at.new.types in
    let told = subst (λ (d : BasisData). ToldOfPoint d c.args.problem.now c.args.reads.now c.args.types.now J K c.loop-point.point c.in_ok-row.field-0) c.loop-point.invariant.basis c.in_ok-row.ensures.opened in
    record { missing = point_open b c.args.problem.now c.args.reads.now c.args.types.now J K c.loop-point.invariant.grows c.loop-point.point c.in_ok-row.field-0 told c.in-Some.row c.in-Some.is }

pub returns : goal.returns
returns c =
    let points = ap (λ (q : ProblemData). q.points) c.problem.view_is in
    record { missing = points_all c.args.voids.now.basis c.args.problem.now c.args.reads.now c.args.types.now c.loop-point.point (omega (arith, c.count-point-end.ensures.points, ap (λ (x : PointsData). length x.points) points, c.loop-point-test.false)) c.loop-point.invariant.settled }
