use Rattle.std.proofs.Common.{◌≡◌, refl, sym, subst}
use Rattle.hs_history.specs.Story.{gives_back}
use Rattle.hs_history.specs.CoreStep.{Holds}
use Rattle.hs_core.specs.Core.{state_of, stepped}
use Rattle.hs_shared.specs.Seats.{SeatData}
use Rattle.hs_shared.proofs.Seen.{still_holds}
use Rattle.hs_shared.proofs.Leaving.{does_by}
use Rattle.hs_shared.proofs.table.SharedTable.give_back.Goals as goal

pub give_back-requires-clause-ticket : goal.give_back-requires-clause-ticket
give_back-requires-clause-ticket g c =
    let core = c.enter-hold.result.core in
    subst (λ (s : SeatData). Holds (state_of core) s.known.number c.args.ticket) (sym c.enter-hold.ensures.seat) (still_holds c.args.seat.now core c.enter-hold.ensures.finds c.args.ticket c.requires.ticket)

pub returns : goal.returns
returns g c =
    let core = c.enter-hold.result.core in
    let left = c.give_back.new.self.core in
    let n = c.args.seat.now.known.number in
    does_by c.args.seat.now c.enter-hold.new.seat c.give_back.new.seat c.leave.new.seat core left c.enter-hold.ensures.seat c.enter-hold.ensures.finds c.give_back.ensures.told c.give_back.ensures.holds.own c.give_back.ensures.holds.know_core c.leave.ensures
    (λ found after. after ≡ stepped found n (gives_back c.args.ticket) found.spare) core c.enter-hold.ensures.finds.know_core refl refl
    (subst (λ (s : SeatData). left ≡ stepped core s.known.number (gives_back c.args.ticket) core.spare) c.enter-hold.ensures.seat c.give_back.ensures.core)
