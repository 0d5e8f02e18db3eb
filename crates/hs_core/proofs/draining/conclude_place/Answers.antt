use Rattle.std.proofs.Common.{◌≡◌, refl, sym, ap, subst, ◌∙◌, ◌<◌, ◌≤◌, [], length, get_or, slice_get, unwrap_or, Contains, arith, inl, inr}
use Rattle.std.proofs.lemmas.Bool.{cases_lt, MatchBool-at_true, MatchBool-at_false}
use Rattle.std.proofs.lemmas.List.Elements.{Contains-get_or}
use Rattle.hs_types.specs.Interned.{entry_of}
use Rattle.hs_history.specs.Story.{Base}
use Rattle.hs_core.specs.Core.{log_of}
use Rattle.hs_core.proofs.Moving.{Moves, HasAllThatFollow, moves_same, moves_asked, moves_trans, ready_still, place_ready, point_within, dependent_within, in_log_still, has_more, has_new, closed_at_end}
use Rattle.hs_core.proofs.Surplus.{few_there}
use Rattle.hs_core.proofs.draining.conclude_place.Goals as goal

pub list-dependent-items-requires : goal.list-dependent-items-requires
list-dependent-items-requires c =
    let at = ap (λ xs. slice_get xs c.args.place) (sym c.replica.ensures.log) ∙ c.row-point.ensures.entry in
    omega (arith, point_within c.args.core.now c.args.place (entry_of c.replica.result.now.ids c.row-point.result) c.know_core.ensures.legal at, c.requires.dependents.each)

pub loop-dependent-init : goal.loop-dependent-init
loop-dependent-init c = record { moves = moves_same c.args.core.now c.args.core.now refl refl; all = λ k lt. absurd (omega arith) }

pub at_place_within-requires-clause-point : goal.at_place_within-requires-clause-point
at_place_within-requires-clause-point c =
    let items = c.list-dependent-items.result.now in
    let listed = subst (λ xs. Contains xs (get_or items c.loop-dependent.dependent-index 0)) (sym (ap (λ o. unwrap_or o []) c.list-dependent-items.ensures)) (Contains-get_or items c.loop-dependent.dependent-index 0 c.loop-dependent-test.true) in
    let p = c.args.core.now.base.problem in
    let within = dependent_within p.points p.flow.pairs c.args.dependents.now c.row-point.result.point (get_or items c.loop-dependent.dependent-index 0) c.requires.dependents listed in
    subst (λ (b : Base). get_or items c.loop-dependent.dependent-index 0 < length b.problem.points.points) (sym c.loop-dependent.invariant.moves.alone.base) within

pub at_place_within-requires-clause-place : goal.at_place_within-requires-clause-place
at_place_within-requires-clause-place c = in_log_still c.args.core.now c.loop-dependent.core c.args.place c.loop-dependent.invariant.moves.alone c.requires.place

pub returns-in_err-found-clause-goes : goal.returns-in_err-found-clause-goes
returns-in_err-found-clause-goes c = (moves_asked c.args.core.now c.loop-dependent.core c.at_place_within.new.self c.loop-dependent.invariant.moves c.in_err-found.ensures.kept).alone

pub returns-in_err-found-clause-flight : goal.returns-in_err-found-clause-flight
returns-in_err-found-clause-flight c = (moves_asked c.args.core.now c.loop-dependent.core c.at_place_within.new.self c.loop-dependent.invariant.moves c.in_err-found.ensures.kept).flight

pub returns-in_err-found-clause-work_left : goal.returns-in_err-found-clause-work_left
returns-in_err-found-clause-work_left c = (moves_asked c.args.core.now c.loop-dependent.core c.at_place_within.new.self c.loop-dependent.invariant.moves c.in_err-found.ensures.kept).lighter

pub publish_all-requires-clause-holds : goal.publish_all-requires-clause-holds
publish_all-requires-clause-holds c =
    let moves = moves_asked c.args.core.now c.loop-dependent.core c.at_place_within.new.self c.loop-dependent.invariant.moves c.in_ok-found.ensures.kept in
    (c.requires.holds.0, moves.flight c.args.ticket ∙ c.requires.holds.1)

pub publish_all-requires-clause-ready : goal.publish_all-requires-clause-ready
publish_all-requires-clause-ready c =
    place_ready c.loop-dependent.core c.at_place_within.new.self _ c.args.place c.in_ok-found.found.items c.in_ok-found.ensures.kept
    (in_log_still c.args.core.now c.loop-dependent.core c.args.place c.loop-dependent.invariant.moves.alone c.requires.place) c.in_ok-found.ensures.some

pub returns-in_err-publish_all-clause-goes : goal.returns-in_err-publish_all-clause-goes
returns-in_err-publish_all-clause-goes c =
    (moves_trans c.args.core.now c.at_place_within.new.self c.publish_all.new.core (moves_asked c.args.core.now c.loop-dependent.core c.at_place_within.new.self c.loop-dependent.invariant.moves c.in_ok-found.ensures.kept)
    (record { alone = c.in_err-publish_all.ensures.goes; flight = c.in_err-publish_all.ensures.flight; lighter = c.in_err-publish_all.ensures.work_left })).alone

pub returns-in_err-publish_all-clause-flight : goal.returns-in_err-publish_all-clause-flight
returns-in_err-publish_all-clause-flight c =
    (moves_trans c.args.core.now c.at_place_within.new.self c.publish_all.new.core (moves_asked c.args.core.now c.loop-dependent.core c.at_place_within.new.self c.loop-dependent.invariant.moves c.in_ok-found.ensures.kept)
    (record { alone = c.in_err-publish_all.ensures.goes; flight = c.in_err-publish_all.ensures.flight; lighter = c.in_err-publish_all.ensures.work_left })).flight

pub returns-in_err-publish_all-clause-work_left : goal.returns-in_err-publish_all-clause-work_left
returns-in_err-publish_all-clause-work_left c =
    (moves_trans c.args.core.now c.at_place_within.new.self c.publish_all.new.core (moves_asked c.args.core.now c.loop-dependent.core c.at_place_within.new.self c.loop-dependent.invariant.moves c.in_ok-found.ensures.kept)
    (record { alone = c.in_err-publish_all.ensures.goes; flight = c.in_err-publish_all.ensures.flight; lighter = c.in_err-publish_all.ensures.work_left })).lighter

pub returns-then-not-branch-clause-goes : goal.returns-then-not-branch-clause-goes
returns-then-not-branch-clause-goes c =
    (moves_trans c.args.core.now c.at_place_within.new.self c.publish_all.new.core (moves_asked c.args.core.now c.loop-dependent.core c.at_place_within.new.self c.loop-dependent.invariant.moves c.in_ok-found.ensures.kept)
    (record { alone = c.in_ok-publish_all.ensures.goes; flight = c.in_ok-publish_all.ensures.flight; lighter = c.in_ok-publish_all.ensures.work_left })).alone

pub returns-then-not-branch-clause-flight : goal.returns-then-not-branch-clause-flight
returns-then-not-branch-clause-flight c =
    (moves_trans c.args.core.now c.at_place_within.new.self c.publish_all.new.core (moves_asked c.args.core.now c.loop-dependent.core c.at_place_within.new.self c.loop-dependent.invariant.moves c.in_ok-found.ensures.kept)
    (record { alone = c.in_ok-publish_all.ensures.goes; flight = c.in_ok-publish_all.ensures.flight; lighter = c.in_ok-publish_all.ensures.work_left })).flight

pub returns-then-not-branch-clause-work_left : goal.returns-then-not-branch-clause-work_left
returns-then-not-branch-clause-work_left c =
    (moves_trans c.args.core.now c.at_place_within.new.self c.publish_all.new.core (moves_asked c.args.core.now c.loop-dependent.core c.at_place_within.new.self c.loop-dependent.invariant.moves c.in_ok-found.ensures.kept)
    (record { alone = c.in_ok-publish_all.ensures.goes; flight = c.in_ok-publish_all.ensures.flight; lighter = c.in_ok-publish_all.ensures.work_left })).lighter

pub returns-then-not-branch-clause-closed : goal.returns-then-not-branch-clause-closed
returns-then-not-branch-clause-closed c = MatchBool-at_false _ _ c.if-not-branch.true c.in_ok-publish_all.ensures.all

pub loop-dependent-preserved : goal.loop-dependent-preserved
loop-dependent-preserved c =
    let a = c.args.core.now in
    let b = c.loop-dependent.core in
    let m = c.at_place_within.new.self in
    let e = c.publish_all.new.core in
    let published : Moves c.args.worker m e = record { alone = c.in_ok-publish_all.ensures.goes; flight = c.in_ok-publish_all.ensures.flight; lighter = c.in_ok-publish_all.ensures.work_left } in
    let asked = moves_asked b b m (moves_same b b refl refl) c.in_ok-found.ensures.kept in
    let later = moves_trans b m e asked published in
    let some = c.in_ok-found.ensures.some in
    let found = c.in_ok-found.found.items in
    let there = MatchBool-at_true _ _ c.if-not-branch.false c.in_ok-publish_all.ensures.all in
    let ready = place_ready b m _ c.args.place found c.in_ok-found.ensures.kept (in_log_still a b c.args.place c.loop-dependent.invariant.moves.alone c.requires.place) some in
    let in_budget = few_there e c.know_core-in-loop-dependent.ensures found (λ k d lt. ready_still m e (get_or found k d) published.alone c.in_ok-publish_all.ensures.ids (ready k d lt)) some.once there in
    let few : length found ≤ c.budget-most.result = omega (arith, in_budget, ap (λ (x : Base). x.budget) (moves_trans a b e c.loop-dependent.invariant.moves later).alone.base, c.budget-most.ensures) in
    let items = c.list-dependent-items.result.now in
    let n = c.loop-dependent.dependent-index in
    record {
      moves = moves_trans a b e c.loop-dependent.invariant.moves later;
      all = λ k lt. elim (cases_lt k n) [
        | inl below ↦ has_more a.base.problem (log_of a) c.args.place (get_or items k 0) b e later.alone (c.loop-dependent.invariant.all k below)
        | inr above ↦
            let same : n ≡ k = omega arith in
            subst (λ j. HasAllThatFollow a.base.problem (log_of a) c.args.place (get_or items j 0) (log_of e)) same
            (has_new a b m e c.args.place (get_or items n 0) c.in_ok-found.found.items c.requires.place c.loop-dependent.invariant.moves.alone c.in_ok-publish_all.ensures.ids (c.in_ok-found.ensures.all few) there)
      ];
    }

pub returns-clause-goes : goal.returns-clause-goes
returns-clause-goes c = c.loop-dependent.invariant.moves.alone

pub returns-clause-flight : goal.returns-clause-flight
returns-clause-flight c = c.loop-dependent.invariant.moves.flight

pub returns-clause-work_left : goal.returns-clause-work_left
returns-clause-work_left c = c.loop-dependent.invariant.moves.lighter

pub returns-clause-closed : goal.returns-clause-closed
returns-clause-closed c =
    let at = ap (λ xs. slice_get xs c.args.place) (sym c.replica.ensures.log) ∙ c.row-point.ensures.entry in
    closed_at_end c.args.core.now c.loop-dependent.core c.args.place (entry_of c.replica.result.now.ids c.row-point.result) c.args.dependents.now c.list-dependent-items.result.now c.loop-dependent.dependent-index
    c.requires.place c.loop-dependent.invariant.moves.alone at c.requires.dependents c.list-dependent-items.ensures c.loop-dependent-test.false c.loop-dependent.invariant.all
