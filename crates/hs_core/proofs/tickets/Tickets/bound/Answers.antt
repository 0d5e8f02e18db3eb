use Rattle.std.proofs.Common.{ap, sym, ◌∙◌, None, arith}
use Rattle.std.proofs.lemmas.List.{get_or_past}
use Rattle.hs_core.specs.Tickets.{TicketsData, under}
use Rattle.hs_core.proofs.tickets.Tickets.bound.Goals as goal

pub returns : goal.returns
returns c = λ ticket le.
    sym (ap (λ (t : TicketsData). under t ticket) c.self.view_is) ∙ get_or_past c.self.inside.slots.slots ticket None (omega (arith, c.capacity.ensures.slots, c.capacity.ensures.value))
