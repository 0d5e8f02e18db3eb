use Rattle.std.proofs.Common.{ap, ◌++◌, ◌∙◌}
use Rattle.std.proofs.lemmas.Result.{IfOk-weaker}
use Rattle.hs_text.specs.Report.{certificate_summary}
use Rattle.hs_text.proofs.evidence.certificate_summary.Goals as goal

pub returns : goal.returns
returns c =
    IfOk-weaker c.finish.result _ _
    (λ text h. h.1 ∙ (c.push_certificate.ensures.bytes h.0 ∙ ap (λ r. r ++ certificate_summary c.args.entries c.args.void c.args.removed) c.new-text.ensures)) c.finish.ensures
