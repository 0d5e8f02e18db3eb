use Rattle.std.proofs.Common.{sym, ap, subst, ◌∙◌, All, Bool, Result, Contains, arith}
use Rattle.std.proofs.lemmas.Bool.{eqb-true}
use Rattle.std.proofs.lemmas.List.Elements.{All-weaker}
use Rattle.hs_scheme.specs.declared.memory.OutOfMemory.{OutOfMemory}
use Rattle.hs_scheme.proofs.Lists.{here}
use Rattle.hs_history.specs.declared.step.Work.TheVariants.{Seed}
use Rattle.hs_history.specs.Story.{Base, takes}
use Rattle.hs_history.specs.CoreStep.{IsClosedSeed, CanFinish}
use Rattle.hs_core.specs.Core.{CoreData, state_of, log_of}
use Rattle.hs_core.specs.Draining.{IsReady, IsThere}
use Rattle.hs_core.proofs.Moving.{Moves, alone_same, alone_step, nothing_flies, holds_new, ready_still, seed_ready, seed_closed_after, taken_work}
use Rattle.hs_core.proofs.Turning.{TurnEnds, holds_then, closed_turn, turn_behind, next_brought, passed_turn, none_closed, may_close}
use Rattle.hs_core.proofs.draining.seed_turn.Goals as goal

pub at_seed-requires : goal.at_seed-requires
at_seed-requires c =
    let a = c.args.core.now in
    taken_work a (Seed c.args.point) c.know_core.ensures.legal (subst (λ ws. Contains ws (Seed c.args.point)) (sym c.requires.next.pending) (here (Seed c.args.point) c.requires.next.rest))

pub returns-in_err-found-clause-goes : goal.returns-in_err-found-clause-goes
returns-in_err-found-clause-goes c =
    let a = c.args.core.now in
    let m = c.at_seed.new.self in
    let is = c.in_err-found.ensures.kept in
    alone_same a m (ap (λ (x : CoreData). x.base) is) (ap (λ (x : CoreData). x.story) is)

pub returns-in_err-found-clause-flight : goal.returns-in_err-found-clause-flight
returns-in_err-found-clause-flight c =
    let a = c.args.core.now in
    let m = c.at_seed.new.self in
    let is = c.in_err-found.ensures.kept in
    nothing_flies a m (ap (λ (x : CoreData). x.base) is) (ap (λ (x : CoreData). x.story) is) c.requires.flight

pub pass_seed-requires-clause-next : goal.pass_seed-requires-clause-next
pass_seed-requires-clause-next c = next_brought c.args.core.now c.at_seed.new.self c.args.point c.in_ok-found.ensures.kept c.requires.next

pub pass_seed-requires-clause-flight : goal.pass_seed-requires-clause-flight
pass_seed-requires-clause-flight c =
    let a = c.args.core.now in
    let m = c.at_seed.new.self in
    let is = c.in_ok-found.ensures.kept in
    nothing_flies a m (ap (λ (x : CoreData). x.base) is) (ap (λ (x : CoreData). x.story) is) c.requires.flight

pub pass_seed-requires-clause-closed : goal.pass_seed-requires-clause-closed
pass_seed-requires-clause-closed c =
    let a = c.args.core.now in
    let m = c.at_seed.new.self in
    let empty = eqb-true _ _ (sym c.is_empty.ensures ∙ c.if-is_empty.true) in
    subst (λ (b : Base). IsClosedSeed b.problem (log_of m) c.args.point) (sym (ap (λ (x : CoreData). x.base) c.in_ok-found.ensures.kept))
    (none_closed a.base.problem m.ids (log_of m) c.in_ok-found.found.items c.args.point (omega (arith, c.in_ok-found.found.ok.0, empty)) c.in_ok-found.ensures.found)

pub pass_seed-requires-clause-spare : goal.pass_seed-requires-clause-spare
pass_seed-requires-clause-spare c = omega (arith, c.requires.spare, ap (λ (x : CoreData). x.spare) c.in_ok-found.ensures.kept)

pub returns-then-is_empty-clause-goes : goal.returns-then-is_empty-clause-goes
returns-then-is_empty-clause-goes c =
    let a = c.args.core.now in
    let m = c.at_seed.new.self in
    let is = c.in_ok-found.ensures.kept in
    let base = ap (λ (x : CoreData). x.base) is in
    let story = ap (λ (x : CoreData). x.story) is in
    let free = nothing_flies a m base story c.requires.flight in
    let ends = passed_turn {E = OutOfMemory} {me = c.args.worker} m c.pass_seed.new.self c.args.point _ free (next_brought a m c.args.point is c.requires.next) c.pass_seed.ensures in
    (turn_behind a m base story c.pass_seed.new.self _ ends).goes

pub returns-then-is_empty-clause-flight : goal.returns-then-is_empty-clause-flight
returns-then-is_empty-clause-flight c =
    let a = c.args.core.now in
    let m = c.at_seed.new.self in
    let is = c.in_ok-found.ensures.kept in
    let base = ap (λ (x : CoreData). x.base) is in
    let story = ap (λ (x : CoreData). x.story) is in
    let free = nothing_flies a m base story c.requires.flight in
    let ends = passed_turn {E = OutOfMemory} {me = c.args.worker} m c.pass_seed.new.self c.args.point _ free (next_brought a m c.args.point is c.requires.next) c.pass_seed.ensures in
    (turn_behind a m base story c.pass_seed.new.self _ ends).flight

pub returns-then-is_empty-clause-more : goal.returns-then-is_empty-clause-more
returns-then-is_empty-clause-more c =
    let a = c.args.core.now in
    let m = c.at_seed.new.self in
    let is = c.in_ok-found.ensures.kept in
    let base = ap (λ (x : CoreData). x.base) is in
    let story = ap (λ (x : CoreData). x.story) is in
    let free = nothing_flies a m base story c.requires.flight in
    let ends = passed_turn {E = OutOfMemory} {me = c.args.worker} m c.pass_seed.new.self c.args.point _ free (next_brought a m c.args.point is c.requires.next) c.pass_seed.ensures in
    (turn_behind a m base story c.pass_seed.new.self _ ends).more

pub take_first-ticket-requires-clause-none_kept : goal.take_first-ticket-requires-clause-none_kept
take_first-ticket-requires-clause-none_kept c = (next_brought c.args.core.now c.at_seed.new.self c.args.point c.in_ok-found.ensures.kept c.requires.next).none_kept

pub take_first-ticket-requires-clause-goes_on : goal.take_first-ticket-requires-clause-goes_on
take_first-ticket-requires-clause-goes_on c = (next_brought c.args.core.now c.at_seed.new.self c.args.point c.in_ok-found.ensures.kept c.requires.next).goes_on

pub take_first-ticket-requires-clause-first : goal.take_first-ticket-requires-clause-first
take_first-ticket-requires-clause-first c =
    let next = next_brought c.args.core.now c.at_seed.new.self c.args.point c.in_ok-found.ensures.kept c.requires.next in
    (next.rest, next.pending)

pub take_first-ticket-requires-clause-spare : goal.take_first-ticket-requires-clause-spare
take_first-ticket-requires-clause-spare c = omega (arith, c.requires.spare, ap (λ (x : CoreData). x.spare) c.in_ok-found.ensures.kept)

pub publish_all-all-requires-clause-holds : goal.publish_all-all-requires-clause-holds
publish_all-all-requires-clause-holds c =
    (Seed c.args.point, holds_new c.at_seed.new.self c.take_first-ticket.new.self (Seed c.args.point) c.take_first-ticket.result _ c.take_first-ticket.ensures.stepped)

pub publish_all-all-requires-clause-ready : goal.publish_all-all-requires-clause-ready
publish_all-all-requires-clause-ready c =
    let a = c.args.core.now in
    let m = c.at_seed.new.self in
    let b = c.take_first-ticket.new.self in
    let step = alone_step {me = c.args.worker} m b (takes (Seed c.args.point) c.take_first-ticket.result) _ c.take_first-ticket.ensures.stepped in
    All-weaker (IsReady m) (IsReady b) (λ d ready. ready_still m b d step (ap (λ (x : CoreData). x.ids) c.take_first-ticket.ensures.stepped) ready) c.in_ok-found.found.items
    (seed_ready a m c.args.point c.in_ok-found.found.items c.in_ok-found.ensures.kept c.in_ok-found.ensures.found)

pub close-requires-clause-holds : goal.close-requires-clause-holds
close-requires-clause-holds c =
    let a = c.args.core.now in
    let m = c.at_seed.new.self in
    let b = c.take_first-ticket.new.self in
    let e = c.publish_all-all.new.core in
    let is = c.in_ok-found.ensures.kept in
    let free = nothing_flies a m (ap (λ (x : CoreData). x.base) is) (ap (λ (x : CoreData). x.story) is) c.requires.flight in
    let moves : Moves c.args.worker b e = record { alone = c.publish_all-all.ensures.goes; flight = c.publish_all-all.ensures.flight; lighter = c.publish_all-all.ensures.work_left } in
    (Seed c.args.point, holds_then m b e e (Seed c.args.point) c.take_first-ticket.result _ 0 free c.take_first-ticket.ensures.can c.take_first-ticket.ensures.stepped moves)

pub close-requires-clause-closed : goal.close-requires-clause-closed
close-requires-clause-closed c =
    let a = c.args.core.now in
    let m = c.at_seed.new.self in
    let b = c.take_first-ticket.new.self in
    let e = c.publish_all-all.new.core in
    let is = c.in_ok-found.ensures.kept in
    let found = c.in_ok-found.found.items in
    let took = c.take_first-ticket.ensures.stepped in
    let free = nothing_flies a m (ap (λ (x : CoreData). x.base) is) (ap (λ (x : CoreData). x.story) is) c.requires.flight in
    let moves : Moves c.args.worker b e = record { alone = c.publish_all-all.ensures.goes; flight = c.publish_all-all.ensures.flight; lighter = c.publish_all-all.ensures.work_left } in
    let holds = holds_then m b e e (Seed c.args.point) c.take_first-ticket.result _ 0 free c.take_first-ticket.ensures.can took moves in
    may_close (All (IsThere e) found) _ (CanFinish e.base (state_of e) c.args.worker c.take_first-ticket.result) c.publish_all-all.result
    (λ there. record {
      work = Seed c.args.point;
      holds = holds;
      closed = seed_closed_after a m e c.args.point found is (c.publish_all-all.ensures.goes.base ∙ ap (λ (x : CoreData). x.base) took) (c.publish_all-all.ensures.ids ∙ ap (λ (x : CoreData). x.ids) took) c.in_ok-found.ensures.found there;
    })
    c.publish_all-all.ensures.all

pub returns-clause-goes : goal.returns-clause-goes
returns-clause-goes c =
    let a = c.args.core.now in
    let m = c.at_seed.new.self in
    let b = c.take_first-ticket.new.self in
    let e = c.publish_all-all.new.core in
    let d = c.close.new.core in
    let is = c.in_ok-found.ensures.kept in
    let base = ap (λ (x : CoreData). x.base) is in
    let story = ap (λ (x : CoreData). x.story) is in
    let free = nothing_flies a m base story c.requires.flight in
    let moves : Moves c.args.worker b e = record { alone = c.publish_all-all.ensures.goes; flight = c.publish_all-all.ensures.flight; lighter = c.publish_all-all.ensures.work_left } in
    let ends = closed_turn m b e d (Seed c.args.point) c.take_first-ticket.result _ free c.take_first-ticket.ensures.can c.take_first-ticket.ensures.stepped moves (All (IsThere e) c.in_ok-found.found.items) c.publish_all-all.result c.close.ensures.closes c.publish_all-all.ensures.all in
    (turn_behind a m base story d c.close.result (subst (λ (x : Result Bool OutOfMemory). TurnEnds c.args.worker m d x) (sym c.close.ensures.same) ends)).goes

pub returns-clause-flight : goal.returns-clause-flight
returns-clause-flight c =
    let a = c.args.core.now in
    let m = c.at_seed.new.self in
    let b = c.take_first-ticket.new.self in
    let e = c.publish_all-all.new.core in
    let d = c.close.new.core in
    let is = c.in_ok-found.ensures.kept in
    let base = ap (λ (x : CoreData). x.base) is in
    let story = ap (λ (x : CoreData). x.story) is in
    let free = nothing_flies a m base story c.requires.flight in
    let moves : Moves c.args.worker b e = record { alone = c.publish_all-all.ensures.goes; flight = c.publish_all-all.ensures.flight; lighter = c.publish_all-all.ensures.work_left } in
    let ends = closed_turn m b e d (Seed c.args.point) c.take_first-ticket.result _ free c.take_first-ticket.ensures.can c.take_first-ticket.ensures.stepped moves (All (IsThere e) c.in_ok-found.found.items) c.publish_all-all.result c.close.ensures.closes c.publish_all-all.ensures.all in
    (turn_behind a m base story d c.close.result (subst (λ (x : Result Bool OutOfMemory). TurnEnds c.args.worker m d x) (sym c.close.ensures.same) ends)).flight

pub returns-clause-more : goal.returns-clause-more
returns-clause-more c =
    let a = c.args.core.now in
    let m = c.at_seed.new.self in
    let b = c.take_first-ticket.new.self in
    let e = c.publish_all-all.new.core in
    let d = c.close.new.core in
    let is = c.in_ok-found.ensures.kept in
    let base = ap (λ (x : CoreData). x.base) is in
    let story = ap (λ (x : CoreData). x.story) is in
    let free = nothing_flies a m base story c.requires.flight in
    let moves : Moves c.args.worker b e = record { alone = c.publish_all-all.ensures.goes; flight = c.publish_all-all.ensures.flight; lighter = c.publish_all-all.ensures.work_left } in
    let ends = closed_turn m b e d (Seed c.args.point) c.take_first-ticket.result _ free c.take_first-ticket.ensures.can c.take_first-ticket.ensures.stepped moves (All (IsThere e) c.in_ok-found.found.items) c.publish_all-all.result c.close.ensures.closes c.publish_all-all.ensures.all in
    (turn_behind a m base story d c.close.result (subst (λ (x : Result Bool OutOfMemory). TurnEnds c.args.worker m d x) (sym c.close.ensures.same) ends)).more
