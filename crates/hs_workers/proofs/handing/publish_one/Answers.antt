use Rattle.std.proofs.Common.{refl}
use Rattle.hs_core.specs.Core.{deduction_of}
use Rattle.hs_workers.proofs.HoldLemmas.{goes_by, same_flight, published_flight, published_there, deduced_still}
use Rattle.hs_workers.proofs.handing.publish_one.Goals as goal

pub publish-requires-clause-follows : goal.publish-requires-clause-follows
publish-requires-clause-follows c =
    let p = c.args.hold.now.core.base.problem in
    deduced_still p p c.args.replica.now.ids c.args.replica.now.log _ c.args.deduced.now refl c.requires.begins c.requires.deduced

pub returns-in_err-published-clause-goes : goal.returns-in_err-published-clause-goes
returns-in_err-published-clause-goes c =
    goes_by c.args.seat.now c.publish.new.seat c.args.hold.now c.publish.new.self c.requires.holds c.publish.ensures.turn c.publish.ensures.told c.publish.ensures.holds

pub returns-in_err-published-clause-flight : goal.returns-in_err-published-clause-flight
returns-in_err-published-clause-flight c = same_flight c.args.hold.now.core c.publish.new.self.core c.in_err-published.ensures.err.0 c.in_err-published.ensures.err.1

pub returns-in-Over-clause-goes : goal.returns-in-Over-clause-goes
returns-in-Over-clause-goes c =
    goes_by c.args.seat.now c.publish.new.seat c.args.hold.now c.publish.new.self c.requires.holds c.publish.ensures.turn c.publish.ensures.told c.publish.ensures.holds

pub returns-in-Over-clause-flight : goal.returns-in-Over-clause-flight
returns-in-Over-clause-flight c =
    let h = c.in_ok-published.ensures.ok in
    published_flight c.args.hold.now.core h.0 c.publish.new.self.core h.2 h.3 c.args.seat.now.known.number c.args.ticket (deduction_of c.args.replica.now.ids c.args.deduced.now) c.in_ok-published.published h.4

pub returns-clause-goes : goal.returns-clause-goes
returns-clause-goes c =
    goes_by c.args.seat.now c.publish.new.seat c.args.hold.now c.publish.new.self c.requires.holds c.publish.ensures.turn c.publish.ensures.told c.publish.ensures.holds

pub returns-clause-flight : goal.returns-clause-flight
returns-clause-flight c =
    let h = c.in_ok-published.ensures.ok in
    published_flight c.args.hold.now.core h.0 c.publish.new.self.core h.2 h.3 c.args.seat.now.known.number c.args.ticket (deduction_of c.args.replica.now.ids c.args.deduced.now) c.in_ok-published.published h.4

pub returns-clause-there : goal.returns-clause-there
returns-clause-there c = λ yes.
    let h = c.in_ok-published.ensures.ok in
    published_there c.args.hold.now.core h.0 c.publish.new.self.core h.2 h.3 c.args.seat.now.known.number c.args.ticket (deduction_of c.args.replica.now.ids c.args.deduced.now) c.in_ok-published.published c.in_default.not-Over h.4
