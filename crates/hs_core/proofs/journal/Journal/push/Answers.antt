use Rattle.std.proofs.Common.{◌≡◌, ◌∙◌, ◌∷◌, ◌++◌, []}
use Rattle.hs_core.specs.Journal.{event_of}
use Rattle.hs_core.proofs.Keeping.{event_kept}
use Rattle.hs_core.proofs.journal.Journal.push.Goals as goal

pub returns-clause-steps : goal.returns-clause-steps
returns-clause-steps c =
    let event : event_of c.kind_at.result c.ticket_at.result c.due_at-due.result ≡ c.args.step.event =
    (λ i. event_of (c.kind_at.ensures i) (c.ticket_at.ensures i) (c.due_at-due.ensures i)) ∙ event_kept c.args.step.event c.self.inside.due in
    c.mark.ensures.steps ∙ (λ i. c.args.self.now.steps ++ (record { worker = c.args.step.worker; event = event i }) ∷ [])
