use Rattle.std.proofs.Common.{refl, sym, ap, ◌∙◌, ◌∷◌, ◌++◌, [], append_assoc}
use Rattle.std.proofs.lemmas.List.Elements.{All-push}
use Rattle.hs_core.specs.declared.answers.Published.TheVariants.{Over}
use Rattle.hs_core.specs.Core.{CoreData, deduction_of}
use Rattle.hs_core.specs.Draining.{IsThere}
use Rattle.hs_core.proofs.Moving.{moves_same, moves_reserved, moves_trans, ready_still, publish_moves, publish_ids, no_room_kept, next_ready, next_there, all_there, all_yielded}
use Rattle.hs_core.proofs.draining.publish_all.Goals as goal

pub returns-in_err-reserve_some-clause-goes : goal.returns-in_err-reserve_some-clause-goes
returns-in_err-reserve_some-clause-goes c =
    let a = c.args.core.now in
    let b = c.reserve_some.new.self in
    let same = c.in_err-reserve_some.ensures.err in
    (moves_trans a c.loop-deduced.core b c.loop-deduced.invariant.moves (moves_same c.loop-deduced.core b (ap (λ (x : CoreData). x.base) same) (ap (λ (x : CoreData). x.story) same))).alone

pub returns-in_err-reserve_some-clause-flight : goal.returns-in_err-reserve_some-clause-flight
returns-in_err-reserve_some-clause-flight c =
    let a = c.args.core.now in
    let b = c.reserve_some.new.self in
    let same = c.in_err-reserve_some.ensures.err in
    (moves_trans a c.loop-deduced.core b c.loop-deduced.invariant.moves (moves_same c.loop-deduced.core b (ap (λ (x : CoreData). x.base) same) (ap (λ (x : CoreData). x.story) same))).flight

pub returns-in_err-reserve_some-clause-work_left : goal.returns-in_err-reserve_some-clause-work_left
returns-in_err-reserve_some-clause-work_left c =
    let a = c.args.core.now in
    let b = c.reserve_some.new.self in
    let same = c.in_err-reserve_some.ensures.err in
    (moves_trans a c.loop-deduced.core b c.loop-deduced.invariant.moves (moves_same c.loop-deduced.core b (ap (λ (x : CoreData). x.base) same) (ap (λ (x : CoreData). x.story) same))).lighter

pub returns-in_err-reserve_some-clause-ids : goal.returns-in_err-reserve_some-clause-ids
returns-in_err-reserve_some-clause-ids c = ap (λ (x : CoreData). x.ids) c.in_err-reserve_some.ensures.err ∙ c.loop-deduced.invariant.ids

pub publish-requires-clause-holds : goal.publish-requires-clause-holds
publish-requires-clause-holds c =
    let moves = moves_reserved c.args.core.now c.loop-deduced.core c.reserve_some.new.self _ c.loop-deduced.invariant.moves c.in_ok-reserve_some.ensures.same in
    (c.requires.holds.0, moves.flight c.args.ticket ∙ c.requires.holds.1)

pub publish-requires-clause-row : goal.publish-requires-clause-row
publish-requires-clause-row c =
    let a = c.args.core.now in
    let b = c.reserve_some.new.self in
    let d = c.in-Some.deduced in
    let whole = sym (ap (λ xs. c.loop-deduced.yielded ++ xs) c.in-Some.ensures.steps.0) ∙ c.loop-deduced.invariant.whole in
    let moves = moves_reserved a c.loop-deduced.core b _ c.loop-deduced.invariant.moves c.in_ok-reserve_some.ensures.same in
    let ids = ap (λ (x : CoreData). x.ids) c.in_ok-reserve_some.ensures.same ∙ c.loop-deduced.invariant.ids in
    (ready_still a b d moves.alone ids (next_ready a c.args.found.items c.loop-deduced.yielded _ d c.requires.ready whole)).row

pub publish-requires-clause-follows : goal.publish-requires-clause-follows
publish-requires-clause-follows c =
    let a = c.args.core.now in
    let b = c.reserve_some.new.self in
    let d = c.in-Some.deduced in
    let whole = sym (ap (λ xs. c.loop-deduced.yielded ++ xs) c.in-Some.ensures.steps.0) ∙ c.loop-deduced.invariant.whole in
    let moves = moves_reserved a c.loop-deduced.core b _ c.loop-deduced.invariant.moves c.in_ok-reserve_some.ensures.same in
    let ids = ap (λ (x : CoreData). x.ids) c.in_ok-reserve_some.ensures.same ∙ c.loop-deduced.invariant.ids in
    (ready_still a b d moves.alone ids (next_ready a c.args.found.items c.loop-deduced.yielded _ d c.requires.ready whole)).follows

pub publish-requires-clause-spare : goal.publish-requires-clause-spare
publish-requires-clause-spare c = c.in_ok-reserve_some.ensures.some

pub returns-in-Over-clause-goes : goal.returns-in-Over-clause-goes
returns-in-Over-clause-goes c =
    let a = c.args.core.now in
    let b = c.reserve_some.new.self in
    (moves_trans a b c.publish.new.self (moves_reserved a c.loop-deduced.core b _ c.loop-deduced.invariant.moves c.in_ok-reserve_some.ensures.same)
    (publish_moves c.args.worker b c.publish.new.self c.args.ticket (deduction_of b.ids c.in-Some.deduced) Over c.in-Over.ensures)).alone

pub returns-in-Over-clause-flight : goal.returns-in-Over-clause-flight
returns-in-Over-clause-flight c =
    let a = c.args.core.now in
    let b = c.reserve_some.new.self in
    (moves_trans a b c.publish.new.self (moves_reserved a c.loop-deduced.core b _ c.loop-deduced.invariant.moves c.in_ok-reserve_some.ensures.same)
    (publish_moves c.args.worker b c.publish.new.self c.args.ticket (deduction_of b.ids c.in-Some.deduced) Over c.in-Over.ensures)).flight

pub returns-in-Over-clause-work_left : goal.returns-in-Over-clause-work_left
returns-in-Over-clause-work_left c =
    let a = c.args.core.now in
    let b = c.reserve_some.new.self in
    (moves_trans a b c.publish.new.self (moves_reserved a c.loop-deduced.core b _ c.loop-deduced.invariant.moves c.in_ok-reserve_some.ensures.same)
    (publish_moves c.args.worker b c.publish.new.self c.args.ticket (deduction_of b.ids c.in-Some.deduced) Over c.in-Over.ensures)).lighter

pub returns-in-Over-clause-ids : goal.returns-in-Over-clause-ids
returns-in-Over-clause-ids c =
    let b = c.reserve_some.new.self in
    publish_ids c.args.worker b c.publish.new.self c.args.ticket (deduction_of b.ids c.in-Some.deduced) Over c.in-Over.ensures ∙ ap (λ (x : CoreData). x.ids) c.in_ok-reserve_some.ensures.same ∙ c.loop-deduced.invariant.ids

pub returns-in-Over-clause-all : goal.returns-in-Over-clause-all
returns-in-Over-clause-all c = no_room_kept c.args.worker c.reserve_some.new.self c.publish.new.self c.args.ticket (deduction_of c.reserve_some.new.self.ids c.in-Some.deduced) c.in-Over.ensures

pub loop-deduced-preserved : goal.loop-deduced-preserved
loop-deduced-preserved c =
    let a = c.args.core.now in
    let b = c.reserve_some.new.self in
    let e = c.publish.new.self in
    let d = c.in-Some.deduced in
    let publishes = publish_moves c.args.worker b e c.args.ticket (deduction_of b.ids d) c.publish.result c.publish.ensures in
    let moves = moves_reserved a c.loop-deduced.core b _ c.loop-deduced.invariant.moves c.in_ok-reserve_some.ensures.same in
    let after = moves_reserved c.loop-deduced.core c.loop-deduced.core b _ (moves_same c.loop-deduced.core c.loop-deduced.core refl refl) c.in_ok-reserve_some.ensures.same in
    let ids = publish_ids c.args.worker b e c.args.ticket (deduction_of b.ids d) c.publish.result c.publish.ensures ∙ ap (λ (x : CoreData). x.ids) c.in_ok-reserve_some.ensures.same in
    record {
      moves = moves_trans a b e moves publishes;
      ids = ids ∙ c.loop-deduced.invariant.ids;
      there = All-push (IsThere e) c.loop-deduced.yielded d (all_there c.loop-deduced.core e c.loop-deduced.yielded (moves_trans c.loop-deduced.core b e after publishes).alone ids c.loop-deduced.invariant.there)
          (next_there c.args.worker b e c.args.ticket d c.publish.result c.in_default.not-Over c.publish.ensures);
      whole = append_assoc c.loop-deduced.yielded (d ∷ []) _ ∙ sym (ap (λ xs. c.loop-deduced.yielded ++ xs) c.in-Some.ensures.steps.0) ∙ c.loop-deduced.invariant.whole;
    }

pub returns-clause-goes : goal.returns-clause-goes
returns-clause-goes c = c.loop-deduced.invariant.moves.alone

pub returns-clause-flight : goal.returns-clause-flight
returns-clause-flight c = c.loop-deduced.invariant.moves.flight

pub returns-clause-work_left : goal.returns-clause-work_left
returns-clause-work_left c = c.loop-deduced.invariant.moves.lighter

pub returns-clause-ids : goal.returns-clause-ids
returns-clause-ids c = c.loop-deduced.invariant.ids

pub returns-clause-all : goal.returns-clause-all
returns-clause-all c = all_yielded (IsThere c.loop-deduced.core) c.loop-deduced.yielded _ c.args.found.items (sym c.loop-deduced.deduced-iterator.rest.ok.0 ∙ c.in-None.ensures.steps.0) c.loop-deduced.invariant.whole c.loop-deduced.invariant.there
