use Rattle.std.proofs.Common.{ap, ◌∙◌}
use Rattle.hs_core.specs.Tickets.{TicketsData, held}
use Rattle.hs_core.proofs.tickets.Tickets.count.Goals as goal

pub returns-clause-count : goal.returns-clause-count
returns-clause-count c = c.len.ensures ∙ ap (λ (t : TicketsData). held t) c.self.view_is
