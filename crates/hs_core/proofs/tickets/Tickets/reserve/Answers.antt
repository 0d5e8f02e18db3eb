use Rattle.std.proofs.Common.{ap, arith}
use Rattle.hs_core.specs.Tickets.{TicketsData, held}
use Rattle.hs_core.proofs.tickets.Tickets.reserve.Goals as goal

pub returns-then-k-capacity-clause-ok : goal.returns-then-k-capacity-clause-ok
returns-then-k-capacity-clause-ok c =
    omega (arith, c.len.ensures, c.capacity.ensures.value, c.capacity.ensures.holds_all, c.if-k-capacity.true, ap (λ (t : TicketsData). held t) c.self.view_is, ap (λ (t : TicketsData). t.capacity) c.self.view_is)

pub invariant_of-self : goal.invariant_of-self
invariant_of-self c = omega (arith, c.capacity-2.ensures.value, c.if-capacity-gt-MAX_TICKETS.false)
