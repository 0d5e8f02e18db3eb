use Rattle.std.proofs.Common.{◌≡◌, refl, sym, ◌∙◌, ap, subst, [], ◌<◌, length, get_or, slice_get, unwrap_or, Contains, arith, inl, inr}
use Rattle.std.proofs.lemmas.Bool.{cases_lt}
use Rattle.std.proofs.lemmas.List.Elements.{Contains-get_or}
use Rattle.hs_types.specs.Interned.{entry_of}
use Rattle.hs_core.specs.Core.{CoreData, log_of}
use Rattle.hs_core.proofs.Moving.{dependent_within, point_within}
use Rattle.hs_rank.specs.Following.{HasAtBy}
use Rattle.hs_rank.specs.Gathering.{AreNewDeduced, IsKnown, Gathered}
use Rattle.hs_rank.proofs.Gathered.{gathered_same, gathered_then}
use Rattle.hs_canonical.proofs.Depending.{place_whole}
use Rattle.hs_canonical.proofs.Kept.{kept_then}
use Rattle.hs_canonical.proofs.gathering.gather_place.Goals as goal

pub list-dependent-items-requires : goal.list-dependent-items-requires
list-dependent-items-requires c =
    let at = ap (λ xs. slice_get xs c.args.place) (sym c.replica.ensures.log) ∙ c.row-point.ensures.entry in
    omega (arith, point_within c.args.core.now c.args.place (entry_of c.replica.result.now.ids c.row-point.result) c.know_core.ensures.legal at, c.requires.dependents.each)

pub loop-dependent-init : goal.loop-dependent-init
loop-dependent-init c = record {
  kept = refl;
  gathered = gathered_same c.args.core.now.base.problem (log_of c.args.core.now) c.args.core.now.ids c.args.fresh.now.list.items c.requires.fresh;
  all = λ k lt. absurd (omega arith);
}

pub gather_at-requires-clause-point : goal.gather_at-requires-clause-point
gather_at-requires-clause-point c =
    let items = c.list-dependent-items.result.now in
    let listed = subst (λ xs. Contains xs (get_or items c.loop-dependent.dependent-index 0)) (sym (ap (λ o. unwrap_or o []) c.list-dependent-items.ensures)) (Contains-get_or items c.loop-dependent.dependent-index 0 c.loop-dependent-test.true) in
    let p = c.args.core.now.base.problem in
    let within = dependent_within p.points p.flow.pairs c.args.dependents.now c.row-point.result.point (get_or items c.loop-dependent.dependent-index 0) c.requires.dependents listed in
    subst (λ (x : CoreData). get_or items c.loop-dependent.dependent-index 0 < length x.base.problem.points.points) (sym c.loop-dependent.invariant.kept) within

pub gather_at-requires-clause-place : goal.gather_at-requires-clause-place
gather_at-requires-clause-place c = subst (λ (x : CoreData). c.args.place < length (log_of x)) (sym c.loop-dependent.invariant.kept) c.requires.place

pub gather_at-requires-clause-fresh : goal.gather_at-requires-clause-fresh
gather_at-requires-clause-fresh c =
    let b = c.loop-dependent.core in
    subst (λ (x : CoreData). AreNewDeduced x.base.problem b.ids (log_of x) c.loop-dependent.fresh.list.items) (sym c.loop-dependent.invariant.kept) c.loop-dependent.invariant.gathered.fresh

pub loop-dependent-preserved : goal.loop-dependent-preserved
loop-dependent-preserved c =
    let a = c.args.core.now in
    let b = c.loop-dependent.core in
    let e = c.gather_at.new.core in
    let p = a.base.problem in
    let items = c.list-dependent-items.result.now in
    let n = c.loop-dependent.dependent-index in
    let ys = c.loop-dependent.fresh.list.items in
    let zs = c.gather_at.new.fresh.list.items in
    let kept = c.loop-dependent.invariant.kept in
    let later = subst (λ (x : CoreData). Gathered x.base.problem (log_of x) b.ids ys e.ids zs) kept c.in_ok-gather_at.ensures.gathered in
    record {
      kept = kept_then a b e kept c.in_ok-gather_at.ensures.kept;
      gathered = gathered_then p (log_of a) a.ids b.ids e.ids c.args.fresh.now.list.items ys zs c.loop-dependent.invariant.gathered later;
      all = λ k lt. elim (cases_lt k n) [
        | inl below ↦ λ s x at by among. later.more s x (c.loop-dependent.invariant.all k below s x at by among)
        | inr above ↦
            let same : n ≡ k = omega arith in
            subst (λ j. HasAtBy p (log_of a) c.args.place (get_or items j 0) (IsKnown e.ids (log_of a) zs)) same
            (subst (λ (x : CoreData). HasAtBy x.base.problem (log_of x) c.args.place (get_or items n 0) (IsKnown e.ids (log_of x) zs)) kept c.in_ok-gather_at.ensures.all)
      ];
    }

pub returns-clause-kept : goal.returns-clause-kept
returns-clause-kept c = c.loop-dependent.invariant.kept

pub returns-clause-gathered : goal.returns-clause-gathered
returns-clause-gathered c = c.loop-dependent.invariant.gathered

pub returns-clause-all : goal.returns-clause-all
returns-clause-all c =
    let a = c.args.core.now in
    let at = ap (λ xs. slice_get xs c.args.place) (sym c.replica.ensures.log) ∙ c.row-point.ensures.entry in
    place_whole a.base.problem (log_of a) c.args.place (IsKnown c.loop-dependent.core.ids (log_of a) c.loop-dependent.fresh.list.items) (entry_of c.replica.result.now.ids c.row-point.result) c.args.dependents.now
    c.list-dependent-items.result.now at c.requires.dependents (sym (ap (λ o. unwrap_or o []) c.list-dependent-items.ensures)) (λ k lt. c.loop-dependent.invariant.all k (omega (arith, lt, c.loop-dependent-test.false)))
