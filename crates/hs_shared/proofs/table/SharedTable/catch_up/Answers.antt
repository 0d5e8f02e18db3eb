use Rattle.hs_shared.proofs.Seen.{replica_begins}
use Rattle.hs_shared.proofs.Leaving.{only_looks}
use Rattle.hs_shared.proofs.table.SharedTable.catch_up.Goals as goal

pub catch_up-caught_up-requires : goal.catch_up-caught_up-requires
catch_up-caught_up-requires g c = replica_begins c.args.seat.now c.enter-hold.result.core c.enter-hold.ensures.finds c.args.replica.now.log c.requires.replica

pub returns-clause-seat : goal.returns-clause-seat
returns-clause-seat g c = only_looks c.args.seat.now c.enter-hold.new.seat c.leave.new.seat c.enter-hold.result.core c.enter-hold.ensures.seat c.enter-hold.ensures.finds c.leave.ensures
