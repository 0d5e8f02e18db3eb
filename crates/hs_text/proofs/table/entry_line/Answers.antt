use Rattle.std.proofs.Common.{ap, ◌++◌, ◌∙◌}
use Rattle.std.proofs.lemmas.Result.{IfOk-weaker}
use Rattle.hs_text.specs.Report.{entry_line}
use Rattle.hs_text.proofs.table.entry_line.Goals as goal

pub returns : goal.returns
returns c =
    IfOk-weaker c.finish.result _ _
    (λ text h. h.1 ∙ (c.push_entry_line.ensures.bytes h.0 ∙ ap (λ r. r ++ entry_line c.args.problem.now c.args.entry.now) c.new-text.ensures)) c.finish.ensures
