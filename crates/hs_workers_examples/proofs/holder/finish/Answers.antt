use Rattle.std.proofs.Common.{sym, subst, None}
use Rattle.hs_history.specs.Story.{finishes}
use Rattle.hs_workers_examples.specs.Working.{IsHolder}
use Rattle.hs_workers_examples.proofs.StepLemmas.{steps_on}
use Rattle.hs_workers_examples.proofs.HoldLemmas.{holds_on, held_closed}
use Rattle.hs_workers_examples.proofs.holder.finish.Goals as goal

pub finish-requires-clause-closed : goal.finish-requires-clause-closed
finish-requires-clause-closed g c =
    let w = c.catch_up.new.worker in
    held_closed c.args.table.now c.args.problem.now w.seat c.args.hold.now w.replica.log w.held c.catch_up.ensures.holder c.in-Some.work c.in-Some.ticket c.in-Some.is c.catch_up.ensures.whole
    (c.is_closed.ensures.closed c.if-not-is_closed.false)

pub returns : goal.returns
returns g c =
    let w = c.catch_up.new.worker in
    let p = c.args.problem.now in
    let log = w.replica.log in
    let core = c.args.hold.now.core in
    let new = c.finish.new.self in
    subst (λ xs. IsHolder c.args.table.now p c.finish.new.seat new xs None) (sym c.is_closed.ensures.log)
    (holds_on c.args.table.now p w.seat c.args.hold.now log w.held c.catch_up.ensures.holder c.finish.new.seat new None c.finish.ensures.turn c.finish.ensures.told c.finish.ensures.holds
    (steps_on p w.seat.known.number log core new.core w.held (finishes c.in-Some.ticket) core.spare c.catch_up.ensures.holder.works c.finish.ensures.core).1)
