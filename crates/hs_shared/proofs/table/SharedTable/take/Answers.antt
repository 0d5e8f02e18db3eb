use Rattle.std.proofs.Common.{refl, ap, subst}
use Rattle.hs_core.specs.Core.{CoreData}
use Rattle.hs_core.specs.Answers.{Takes}
use Rattle.hs_shared.specs.Seats.{SeatData}
use Rattle.hs_shared.proofs.Leaving.{ok_mapped, err_mapped, does_by, looks_by}
use Rattle.hs_shared.proofs.table.SharedTable.take.Goals as goal

pub returns-clause-ok : goal.returns-clause-ok
returns-clause-ok g c =
    let core = c.enter-hold.result.core in
    let left = c.take-taken.new.self.core in
    let n = c.args.seat.now.known.number in
    let is = c.enter-hold.ensures.finds.know_core in
    ok_mapped c.take-taken.result
    (λ taken h.
    does_by c.args.seat.now c.enter-hold.new.seat c.take-taken.new.seat c.leave.new.seat core left c.enter-hold.ensures.seat c.enter-hold.ensures.finds c.take-taken.ensures.told c.take-taken.ensures.holds.own c.take-taken.ensures.holds.know_core c.leave.ensures
    (λ found after. Takes found n taken after) (record core { spare = h.0 })
    (record { legal = is.legal; least_budget = is.least_budget; greatest_budget = is.greatest_budget; ids = is.ids }) refl refl
    (subst (λ (s : SeatData). Takes (record core { spare = h.0 }) s.known.number taken left) c.enter-hold.ensures.seat h.1))
    c.take-taken.ensures.ok

pub returns-clause-err : goal.returns-clause-err
returns-clause-err g c =
    let core = c.enter-hold.result.core in
    let left = c.take-taken.new.self.core in
    err_mapped c.take-taken.result
    (λ h. looks_by c.args.seat.now c.enter-hold.new.seat c.take-taken.new.seat c.leave.new.seat core left c.enter-hold.ensures.seat c.enter-hold.ensures.finds c.take-taken.ensures.told c.take-taken.ensures.holds.own c.take-taken.ensures.holds.know_core c.leave.ensures (ap (λ (x : CoreData). x.story) h))
    c.take-taken.ensures.err
