use Rattle.std.proofs.Common.{◌≡◌, refl, sym, subst, ◌<◌, length, arith, inl, inr}
use Rattle.std.proofs.lemmas.Bool.{cases_lt}
use Rattle.hs_flow.specs.Dependents.{HasDependents}
use Rattle.hs_core.specs.Core.{CoreData, log_of}
use Rattle.hs_rank.specs.Following.{HasPlaceBy}
use Rattle.hs_rank.specs.Gathering.{AreNewDeduced, IsKnown, Gathered}
use Rattle.hs_rank.proofs.Gathered.{gathered_same, gathered_then}
use Rattle.hs_canonical.proofs.Kept.{kept_then}
use Rattle.hs_canonical.proofs.gathering.gather_places.Goals as goal

pub loop-place-init : goal.loop-place-init
loop-place-init c = record {
  kept = refl;
  gathered = gathered_same c.args.core.now.base.problem (log_of c.args.core.now) c.args.core.now.ids c.args.fresh.now.list.items c.requires.fresh;
  all = λ k le lt. absurd (omega (arith, le, lt));
}

pub gather_place-requires-clause-dependents : goal.gather_place-requires-clause-dependents
gather_place-requires-clause-dependents c =
    subst (λ (x : CoreData). HasDependents x.base.problem.points x.base.problem.flow.pairs c.args.dependents.now) (sym c.loop-place.invariant.kept) c.requires.dependents

pub gather_place-requires-clause-place : goal.gather_place-requires-clause-place
gather_place-requires-clause-place c =
    let within : c.loop-place.place < length (log_of c.args.core.now) = omega (arith, c.loop-place-test.true, c.len-place-end.ensures) in
    subst (λ (x : CoreData). c.loop-place.place < length (log_of x)) (sym c.loop-place.invariant.kept) within

pub gather_place-requires-clause-fresh : goal.gather_place-requires-clause-fresh
gather_place-requires-clause-fresh c =
    let b = c.loop-place.core in
    subst (λ (x : CoreData). AreNewDeduced x.base.problem b.ids (log_of x) c.loop-place.fresh.list.items) (sym c.loop-place.invariant.kept) c.loop-place.invariant.gathered.fresh

pub loop-place-preserved : goal.loop-place-preserved
loop-place-preserved c =
    let a = c.args.core.now in
    let b = c.loop-place.core in
    let e = c.gather_place.new.core in
    let p = a.base.problem in
    let n = c.loop-place.place in
    let ys = c.loop-place.fresh.list.items in
    let zs = c.gather_place.new.fresh.list.items in
    let kept = c.loop-place.invariant.kept in
    let later = subst (λ (x : CoreData). Gathered x.base.problem (log_of x) b.ids ys e.ids zs) kept c.in_ok-gather_place.ensures.gathered in
    record {
      kept = kept_then a b e kept c.in_ok-gather_place.ensures.kept;
      gathered = gathered_then p (log_of a) a.ids b.ids e.ids c.args.fresh.now.list.items ys zs c.loop-place.invariant.gathered later;
      all = λ k le lt. elim (cases_lt k n) [
        | inl below ↦ λ at x s here depends by among. later.more s x (c.loop-place.invariant.all k le below at x s here depends by among)
        | inr above ↦
            let same : n ≡ k = omega arith in
            subst (λ j. HasPlaceBy p (log_of a) j (IsKnown e.ids (log_of a) zs)) same (subst (λ (x : CoreData). HasPlaceBy x.base.problem (log_of x) n (IsKnown e.ids (log_of x) zs)) kept c.in_ok-gather_place.ensures.all)
      ];
    }

pub returns-clause-kept : goal.returns-clause-kept
returns-clause-kept c = c.loop-place.invariant.kept

pub returns-clause-gathered : goal.returns-clause-gathered
returns-clause-gathered c = c.loop-place.invariant.gathered

pub returns-clause-all : goal.returns-clause-all
returns-clause-all c = λ place le lt. c.loop-place.invariant.all place le (omega (arith, lt, c.loop-place-test.false, c.len-place-end.ensures))
