use Rattle.std.proofs.Common.{sym, subst, ℕ}
use Rattle.hs_core.specs.Answers.{Takes}
use Rattle.hs_workers_examples.specs.Working.{WorkHeld, IsHolder, held_after}
use Rattle.hs_workers_examples.proofs.StepLemmas.{expected, takes_on}
use Rattle.hs_workers_examples.proofs.HoldLemmas.{holds_on}
use Rattle.hs_workers_examples.proofs.holder.take.Goals as goal

pub returns : goal.returns
returns g c =
    let w = c.args.worker.now in
    let n = w.seat.known.number in
    let p = c.args.problem.now in
    let log = w.replica.log in
    let core = c.args.hold.now.core in
    let new = c.take.new.self in
    let answer = c.expect-taken.result in
    let done : (spare : ℕ) × Takes (record core { spare = spare }) n answer new.core = expected _ c.take.result answer c.expect-taken.ensures c.take.ensures.ok in
    subst (λ (held : WorkHeld). IsHolder c.args.table.now p c.take.new.seat new log held) (sym c.held_after-worker.ensures)
    (holds_on c.args.table.now p w.seat c.args.hold.now log w.held c.requires c.take.new.seat new (held_after answer) c.take.ensures.turn c.take.ensures.told c.take.ensures.holds
    (takes_on p n log (record core { spare = done.0 }) new.core w.held answer c.requires.works done.1).1)
