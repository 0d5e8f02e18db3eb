use Rattle.std.proofs.Common.{◌≤◌, ◌<◌, refl, sym, ◌∙◌, ap, subst}
use Rattle.hs_core.specs.declared.answers.Published.TheVariants.{Known, Added, Over}
use Rattle.hs_core.specs.Core.{CoreData, deduction_of}
use Rattle.hs_core.specs.Draining.{work_left}
use Rattle.hs_core.specs.Waiting.{Waits}
use Rattle.hs_core.proofs.Moving.{Moves, alone_same, moves_same, moves_trans, publish_moves, publish_ids, no_room_kept, known_there, added_there}
use Rattle.hs_core.proofs.Selected.{if_none, published_own, published_selecting, selecting_none, added_lighter, kept_ended}
use Rattle.hs_core.proofs.selecting.publish_next.Goals as goal

pub loop-deduced-init : goal.loop-deduced-init
loop-deduced-init c = record { same = refl; selecting = c.requires.selecting }

pub loop-deduced-smaller : goal.loop-deduced-smaller
loop-deduced-smaller c = c.in-Some.ensures.less

pub publish-requires-clause-holds : goal.publish-requires-clause-holds
publish-requires-clause-holds c = c.loop-deduced.invariant.selecting.holds c.in-Some.deduced c.in-Some.ensures.some

pub publish-requires-clause-row : goal.publish-requires-clause-row
publish-requires-clause-row c = (c.loop-deduced.invariant.selecting.ready c.in-Some.deduced c.in-Some.ensures.some).row

pub publish-requires-clause-follows : goal.publish-requires-clause-follows
publish-requires-clause-follows c = (c.loop-deduced.invariant.selecting.ready c.in-Some.deduced c.in-Some.ensures.some).follows

pub publish-requires-clause-spare : goal.publish-requires-clause-spare
publish-requires-clause-spare c = subst (λ (x : CoreData). 1 ≤ x.spare) (sym c.loop-deduced.invariant.same) c.requires.spare

pub loop-deduced-preserved : goal.loop-deduced-preserved
loop-deduced-preserved c =
    let b = c.loop-deduced.core in
    let e = c.publish.new.self in
    let d = c.in-Some.deduced in
    let of = deduction_of b.ids d in
    let moves : Moves c.args.worker b e = publish_moves c.args.worker b e c.args.ticket of (Known c.in-Known.place) c.in-Known.ensures in
    record {
      same = c.in-Known.ensures.1 ∙ c.loop-deduced.invariant.same;
      selecting = published_selecting b e c.args.ticket d (Waits c.loop-deduced.waiting.found) (Waits c.next.new.self.found) c.loop-deduced.invariant.selecting c.next.ensures.fewer c.in-Some.ensures.others moves
          (publish_ids c.args.worker b e c.args.ticket of (Known c.in-Known.place) c.in-Known.ensures) (known_there c.args.worker b e c.args.ticket of c.in-Known.place c.in-Known.ensures);
    }

pub returns-in-Added-clause-goes : goal.returns-in-Added-clause-goes
returns-in-Added-clause-goes c =
    let a = c.args.core.now in
    let b = c.loop-deduced.core in
    let e = c.publish.new.self in
    let same = c.loop-deduced.invariant.same in
    (moves_trans a b e (moves_same a b (ap (λ (x : CoreData). x.base) same) (ap (λ (x : CoreData). x.story) same))
    (publish_moves c.args.worker b e c.args.ticket (deduction_of b.ids c.in-Some.deduced) (Added c.in-Added.place) c.in-Added.ensures)).alone

pub returns-in-Added-clause-own : goal.returns-in-Added-clause-own
returns-in-Added-clause-own c =
    let b = c.loop-deduced.core in
    let e = c.publish.new.self in
    let d = c.in-Some.deduced in
    published_own b e c.args.ticket d (Waits c.loop-deduced.waiting.found) (Waits c.next.new.self.found) c.loop-deduced.invariant.selecting c.next.ensures.fewer c.in-Some.ensures.others
    (publish_moves c.args.worker b e c.args.ticket (deduction_of b.ids d) (Added c.in-Added.place) c.in-Added.ensures)

pub returns-in-Added-clause-after : goal.returns-in-Added-clause-after
returns-in-Added-clause-after c =
    let b = c.loop-deduced.core in
    let e = c.publish.new.self in
    let d = c.in-Some.deduced in
    let of = deduction_of b.ids d in
    let moves : Moves c.args.worker b e = publish_moves c.args.worker b e c.args.ticket of (Added c.in-Added.place) c.in-Added.ensures in (
      subst (λ (x : CoreData). work_left e < work_left x) c.loop-deduced.invariant.same (added_lighter c.args.worker b e c.args.ticket c.in-Added.place of c.in-Added.ensures),
      published_selecting b e c.args.ticket d (Waits c.loop-deduced.waiting.found) (Waits c.next.new.self.found) c.loop-deduced.invariant.selecting c.next.ensures.fewer c.in-Some.ensures.others moves
          (publish_ids c.args.worker b e c.args.ticket of (Added c.in-Added.place) c.in-Added.ensures) (added_there c.args.worker b e c.args.ticket of c.in-Added.place c.in-Added.ensures),
    )

pub returns-in-Over-clause-goes : goal.returns-in-Over-clause-goes
returns-in-Over-clause-goes c =
    let a = c.args.core.now in
    let b = c.loop-deduced.core in
    let e = c.publish.new.self in
    let same = c.loop-deduced.invariant.same in
    (moves_trans a b e (moves_same a b (ap (λ (x : CoreData). x.base) same) (ap (λ (x : CoreData). x.story) same))
    (publish_moves c.args.worker b e c.args.ticket (deduction_of b.ids c.in-Some.deduced) Over c.in-Over.ensures)).alone

pub returns-in-Over-clause-own : goal.returns-in-Over-clause-own
returns-in-Over-clause-own c =
    let b = c.loop-deduced.core in
    let e = c.publish.new.self in
    let d = c.in-Some.deduced in
    published_own b e c.args.ticket d (Waits c.loop-deduced.waiting.found) (Waits c.next.new.self.found) c.loop-deduced.invariant.selecting c.next.ensures.fewer c.in-Some.ensures.others
    (publish_moves c.args.worker b e c.args.ticket (deduction_of b.ids d) Over c.in-Over.ensures)

pub returns-in-Over-clause-after : goal.returns-in-Over-clause-after
returns-in-Over-clause-after c =
    let b = c.loop-deduced.core in
    kept_ended c.publish.new.self (no_room_kept c.args.worker b c.publish.new.self c.args.ticket (deduction_of b.ids c.in-Some.deduced) c.in-Over.ensures)

pub returns-clause-goes : goal.returns-clause-goes
returns-clause-goes c =
    let same = c.loop-deduced.invariant.same in
    alone_same c.args.core.now c.loop-deduced.core (ap (λ (x : CoreData). x.base) same) (ap (λ (x : CoreData). x.story) same)

pub returns-clause-own : goal.returns-clause-own
returns-clause-own c = c.loop-deduced.invariant.selecting.own

pub returns-clause-after : goal.returns-clause-after
returns-clause-after c =
    let none = if_none c.next.result c.in_default.not-Some c.next.ensures.none in
    record {
      still = record {
        same = c.loop-deduced.invariant.same;
        selecting = selecting_none c.args.worker c.args.ticket c.loop-deduced.core (Waits c.loop-deduced.waiting.found) (Waits c.next.new.self.found) none c.next.ensures.fewer c.loop-deduced.invariant.selecting;
      };
      none = λ d w. none d (c.next.ensures.fewer d w);
    }
