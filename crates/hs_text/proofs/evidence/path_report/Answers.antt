use Rattle.std.proofs.Common.{ap, ◌++◌, ◌∙◌}
use Rattle.std.proofs.lemmas.Result.{IfOk-weaker}
use Rattle.hs_text.specs.Report.{path_summary}
use Rattle.hs_text.proofs.evidence.path_report.Goals as goal

pub returns : goal.returns
returns c =
    IfOk-weaker c.finish.result _ _
    (λ text h. h.1 ∙ (c.push_rejection.ensures.bytes h.0 ∙ ap (λ r. r ++ path_summary c.args.problem.now c.args.path.now c.args.removed) c.new-text.ensures)) c.finish.ensures
