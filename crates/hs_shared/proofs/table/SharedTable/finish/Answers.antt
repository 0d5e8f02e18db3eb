use Rattle.std.proofs.Common.{◌≡◌, refl, sym, subst}
use Rattle.hs_history.specs.Story.{finishes}
use Rattle.hs_history.specs.CoreStep.{CanFinish}
use Rattle.hs_core.specs.Core.{state_of, stepped}
use Rattle.hs_shared.specs.Seats.{SeatData}
use Rattle.hs_shared.proofs.Seen.{may_finish}
use Rattle.hs_shared.proofs.Leaving.{does_by}
use Rattle.hs_shared.proofs.table.SharedTable.finish.Goals as goal

pub finish-requires-clause-closed : goal.finish-requires-clause-closed
finish-requires-clause-closed g c =
    let core = c.enter-hold.result.core in
    subst (λ (s : SeatData). CanFinish core.base (state_of core) s.known.number c.args.ticket) (sym c.enter-hold.ensures.seat) (may_finish c.args.seat.now core c.enter-hold.ensures.finds c.args.ticket c.requires.closed)

pub returns : goal.returns
returns g c =
    let core = c.enter-hold.result.core in
    let left = c.finish.new.self.core in
    let n = c.args.seat.now.known.number in
    does_by c.args.seat.now c.enter-hold.new.seat c.finish.new.seat c.leave.new.seat core left c.enter-hold.ensures.seat c.enter-hold.ensures.finds c.finish.ensures.told c.finish.ensures.holds.own c.finish.ensures.holds.know_core c.leave.ensures
    (λ found after. after ≡ stepped found n (finishes c.args.ticket) found.spare) core c.enter-hold.ensures.finds.know_core refl refl
    (subst (λ (s : SeatData). left ≡ stepped core s.known.number (finishes c.args.ticket) core.spare) c.enter-hold.ensures.seat c.finish.ensures.core)
