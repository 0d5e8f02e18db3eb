use Rattle.std.proofs.Common.{None}
use Rattle.hs_history.specs.Story.{gives_back}
use Rattle.hs_workers_examples.proofs.StepLemmas.{steps_on}
use Rattle.hs_workers_examples.proofs.HoldLemmas.{holds_on}
use Rattle.hs_workers_examples.proofs.holder.give_back.Goals as goal

pub returns : goal.returns
returns g c =
    let w = c.args.worker.now in
    let p = c.args.problem.now in
    let log = w.replica.log in
    let core = c.args.hold.now.core in
    let new = c.give_back.new.self in
    holds_on c.args.table.now p w.seat c.args.hold.now log w.held c.requires c.give_back.new.seat new None c.give_back.ensures.turn c.give_back.ensures.told c.give_back.ensures.holds
    (steps_on p w.seat.known.number log core new.core w.held (gives_back c.in-Some.ticket) core.spare c.requires.works c.give_back.ensures.core).1
