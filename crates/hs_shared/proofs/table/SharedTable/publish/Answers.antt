use Rattle.std.proofs.Common.{sym, subst}
use Rattle.hs_history.specs.CoreStep.{Holds}
use Rattle.hs_core.specs.Core.{state_of, deduction_of}
use Rattle.hs_core.specs.Answers.{Publishes}
use Rattle.hs_types.specs.Interned.{entry_of}
use Rattle.hs_shared.specs.Seats.{SeatData}
use Rattle.hs_shared.proofs.Seen.{still_holds, follows}
use Rattle.hs_shared.proofs.Leaving.{ok_mapped, err_mapped, does_by, looks_by}
use Rattle.hs_shared.proofs.table.SharedTable.publish.Goals as goal

pub publish-published-requires-clause-ticket : goal.publish-published-requires-clause-ticket
publish-published-requires-clause-ticket g c =
    let core = c.enter-hold.result.core in
    subst (λ (s : SeatData). Holds (state_of core) s.known.number c.args.ticket) (sym c.enter-hold.ensures.seat) (still_holds c.args.seat.now core c.enter-hold.ensures.finds c.args.ticket c.requires.ticket)

pub publish-published-requires-clause-follows : goal.publish-published-requires-clause-follows
publish-published-requires-clause-follows g c =
    let d = c.args.deduced.now in
    follows c.args.seat.now c.enter-hold.result.core c.enter-hold.ensures.finds c.args.replica.now.log d.support (entry_of c.args.replica.now.ids d.row) c.requires.replica c.requires.follows

pub returns-clause-ok : goal.returns-clause-ok
returns-clause-ok g c =
    let core = c.enter-hold.result.core in
    let left = c.publish-published.new.self.core in
    let n = c.args.seat.now.known.number in
    let d = deduction_of c.args.replica.now.ids c.args.deduced.now in
    ok_mapped c.publish-published.result
    (λ published h.
    does_by c.args.seat.now c.enter-hold.new.seat c.publish-published.new.seat c.leave.new.seat core left c.enter-hold.ensures.seat c.enter-hold.ensures.finds c.publish-published.ensures.told c.publish-published.ensures.holds.own c.publish-published.ensures.holds.know_core c.leave.ensures
    (λ found after. Publishes found n c.args.ticket d published after) h.0 h.1 h.2 h.3
    (subst (λ (s : SeatData). Publishes h.0 s.known.number c.args.ticket d published left) c.enter-hold.ensures.seat h.4))
    c.publish-published.ensures.ok

pub returns-clause-err : goal.returns-clause-err
returns-clause-err g c =
    let core = c.enter-hold.result.core in
    let left = c.publish-published.new.self.core in
    err_mapped c.publish-published.result
    (λ h. looks_by c.args.seat.now c.enter-hold.new.seat c.publish-published.new.seat c.leave.new.seat core left c.enter-hold.ensures.seat c.enter-hold.ensures.finds c.publish-published.ensures.told c.publish-published.ensures.holds.own c.publish-published.ensures.holds.know_core c.leave.ensures h.1)
    c.publish-published.ensures.err
