use Rattle.std.proofs.Common.{ap, ◌++◌, ◌∙◌}
use Rattle.std.proofs.lemmas.Result.{IfOk-weaker}
use Rattle.hs_text.specs.Report.{void_line}
use Rattle.hs_text.proofs.evidence.void_line.Goals as goal

pub returns : goal.returns
returns c =
    IfOk-weaker c.finish.result _ _
    (λ text h. h.1 ∙ (c.push_void_line.ensures.bytes h.0 ∙ ap (λ r. r ++ void_line c.args.problem.now c.args.void.now) c.new-text.ensures)) c.finish.ensures
