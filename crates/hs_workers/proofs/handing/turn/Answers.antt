use Rattle.std.proofs.Common.{sym, ap, subst}
use mathlib.Core.List.{IsPrefix}
use Rattle.hs_replica.specs.Replica.{ReplicaData}
use Rattle.hs_shared.proofs.Seen.{prefix_trans}
use Rattle.hs_core.specs.Core.{state_of, log_of}
use Rattle.hs_workers.proofs.JobLemmas.{all_none}
use Rattle.hs_workers.proofs.HoldLemmas.{goes_trans, begins_none}
use Rattle.hs_workers.proofs.NothingLemmas.{carries_none, unformed_none, fits_none}
use Rattle.hs_workers.proofs.handing.turn.Goals as goal

pub returns-then-not-hand_over-clause-goes : goal.returns-then-not-hand_over-clause-goes
returns-then-not-hand_over-clause-goes c = c.hand_over.ensures.goes

pub returns-then-not-hand_over-clause-fits : goal.returns-then-not-hand_over-clause-fits
returns-then-not-hand_over-clause-fits c =
    fits_none c.args.stock.now.replica c.hand_over.new.stock.replica c.args.rows.now.items (ap (λ (r : ReplicaData). r.log) c.hand_over.ensures.replica) c.requires.none c.len-known.ensures.replica

pub returns-then-not-hand_over-clause-begins : goal.returns-then-not-hand_over-clause-begins
returns-then-not-hand_over-clause-begins c =
    let log = c.args.stock.now.replica.log in
    let whole = log_of c.hand_over.new.hold.core in
    begins_none c.hand_over.new.stock.replica c.args.rows.now.items log whole (ap (λ (r : ReplicaData). r.log) c.hand_over.ensures.replica) c.requires.none
    (prefix_trans log (log_of c.args.hold.now.core) whole c.requires.begins c.hand_over.ensures.goes.log)

pub returns-then-not-hand_over-clause-carries : goal.returns-then-not-hand_over-clause-carries
returns-then-not-hand_over-clause-carries c =
    carries_none c.hand_over.new.seat.known.number (state_of c.hand_over.new.hold.core).flight c.hand_over.new.stock.jobs.items c.hand_over.ensures.free

pub returns-then-not-hand_over-clause-unformed : goal.returns-then-not-hand_over-clause-unformed
returns-then-not-hand_over-clause-unformed c = unformed_none c.hand_over.new.stock.jobs.items c.hand_over.ensures.free

pub returns-then-not-hand_over-clause-works : goal.returns-then-not-hand_over-clause-works
returns-then-not-hand_over-clause-works c = tt

pub take_next-requires-clause-holds : goal.take_next-requires-clause-holds
take_next-requires-clause-holds c = c.hand_over.ensures.goes.holds

pub take_next-requires-clause-free : goal.take_next-requires-clause-free
take_next-requires-clause-free c = c.hand_over.ensures.free

pub take_next-requires-clause-begins : goal.take_next-requires-clause-begins
take_next-requires-clause-begins c =
    subst (λ (r : ReplicaData). IsPrefix r.log (log_of c.hand_over.new.hold.core)) (sym c.hand_over.ensures.replica)
    (prefix_trans c.args.stock.now.replica.log (log_of c.args.hold.now.core) (log_of c.hand_over.new.hold.core) c.requires.begins c.hand_over.ensures.goes.log)

pub returns-clause-goes : goal.returns-clause-goes
returns-clause-goes c =
    goes_trans c.args.seat.now c.hand_over.new.seat c.take_next.new.seat c.args.hold.now c.hand_over.new.hold c.take_next.new.hold c.hand_over.ensures.goes c.take_next.ensures.goes

pub returns-clause-fits : goal.returns-clause-fits
returns-clause-fits c = c.take_next.ensures.fits

pub returns-clause-begins : goal.returns-clause-begins
returns-clause-begins c = c.take_next.ensures.begins

pub returns-clause-carries : goal.returns-clause-carries
returns-clause-carries c = c.take_next.ensures.carries

pub returns-clause-unformed : goal.returns-clause-unformed
returns-clause-unformed c = c.take_next.ensures.unformed

pub returns-clause-works : goal.returns-clause-works
returns-clause-works c = c.take_next.ensures.works

pub returns-then-not-hand_over-clause-all : goal.returns-then-not-hand_over-clause-all
returns-then-not-hand_over-clause-all c =
    all_none c.hand_over.new.seat.known.number (state_of c.hand_over.new.hold.core).flight c.hand_over.new.stock.jobs.items c.hand_over.ensures.free c.hand_over.ensures.all

pub returns-then-not-hand_over-clause-ends : goal.returns-then-not-hand_over-clause-ends
returns-then-not-hand_over-clause-ends c = c.hand_over.ensures.free

pub take_next-requires-clause-all : goal.take_next-requires-clause-all
take_next-requires-clause-all c = c.hand_over.ensures.all

pub returns-clause-all : goal.returns-clause-all
returns-clause-all c = c.take_next.ensures.all

pub returns-clause-ends : goal.returns-clause-ends
returns-clause-ends c = c.take_next.ensures.ends
