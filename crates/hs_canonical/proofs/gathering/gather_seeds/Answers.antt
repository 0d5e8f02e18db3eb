use Rattle.std.proofs.Common.{◌≡◌, refl, sym, ap, subst, length, arith, inl, inr}
use Rattle.std.proofs.lemmas.Bool.{cases_lt}
use Rattle.hs_scheme.specs.Problem.{ProblemData}
use Rattle.hs_core.specs.Core.{CoreData, log_of}
use Rattle.hs_rank.specs.Following.{HasSeedBy}
use Rattle.hs_rank.specs.Gathering.{AreNewDeduced, IsKnown, Gathered}
use Rattle.hs_rank.proofs.Gathered.{gathered_same, gathered_then}
use Rattle.hs_canonical.proofs.Kept.{kept_then}
use Rattle.hs_canonical.proofs.gathering.gather_seeds.Goals as goal

pub loop-point-init : goal.loop-point-init
loop-point-init c = record {
  kept = refl;
  gathered = gathered_same c.args.core.now.base.problem (log_of c.args.core.now) c.args.core.now.ids c.args.fresh.now.list.items c.requires.fresh;
  all = λ k lt. absurd (omega arith);
}

pub gather_seed-requires-clause-point : goal.gather_seed-requires-clause-point
gather_seed-requires-clause-point c =
    omega (
      arith,
      c.loop-point-test.true,
      c.count-point-end.ensures.points,
      ap (λ (p : ProblemData). length p.points.points) c.problem.view_is,
      ap (λ (p : ProblemData). length p.points.points) c.problem-problem.ensures,
      ap (λ (x : CoreData). length x.base.problem.points.points) c.loop-point.invariant.kept,
    )

pub gather_seed-requires-clause-fresh : goal.gather_seed-requires-clause-fresh
gather_seed-requires-clause-fresh c =
    let b = c.loop-point.core in
    subst (λ (x : CoreData). AreNewDeduced x.base.problem b.ids (log_of x) c.loop-point.fresh.list.items) (sym c.loop-point.invariant.kept) c.loop-point.invariant.gathered.fresh

pub loop-point-preserved : goal.loop-point-preserved
loop-point-preserved c =
    let a = c.args.core.now in
    let b = c.loop-point.core in
    let e = c.gather_seed.new.core in
    let p = a.base.problem in
    let n = c.loop-point.point in
    let ys = c.loop-point.fresh.list.items in
    let zs = c.gather_seed.new.fresh.list.items in
    let kept = c.loop-point.invariant.kept in
    let later = subst (λ (x : CoreData). Gathered x.base.problem (log_of x) b.ids ys e.ids zs) kept c.in_ok-gather_seed.ensures.gathered in
    record {
      kept = kept_then a b e kept c.in_ok-gather_seed.ensures.kept;
      gathered = gathered_then p (log_of a) a.ids b.ids e.ids c.args.fresh.now.list.items ys zs c.loop-point.invariant.gathered later;
      all = λ k lt. elim (cases_lt k n) [
        | inl below ↦ λ s x at by. later.more s x (c.loop-point.invariant.all k below s x at by)
        | inr above ↦
            let same : n ≡ k = omega arith in
            subst (λ j. HasSeedBy p j (IsKnown e.ids (log_of a) zs)) same (subst (λ (x : CoreData). HasSeedBy x.base.problem n (IsKnown e.ids (log_of x) zs)) kept c.in_ok-gather_seed.ensures.all)
      ];
    }

pub returns-clause-kept : goal.returns-clause-kept
returns-clause-kept c = c.loop-point.invariant.kept

pub returns-clause-gathered : goal.returns-clause-gathered
returns-clause-gathered c = c.loop-point.invariant.gathered

pub returns-clause-all : goal.returns-clause-all
returns-clause-all c = λ point lt.
    c.loop-point.invariant.all point
    (omega (arith, lt, c.loop-point-test.false, c.count-point-end.ensures.points, ap (λ (p : ProblemData). length p.points.points) c.problem.view_is, ap (λ (p : ProblemData). length p.points.points) c.problem-problem.ensures))
