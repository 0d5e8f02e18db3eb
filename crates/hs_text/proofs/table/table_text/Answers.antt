use Rattle.std.proofs.Common.{sym, ◌∙◌, ap, ◌++◌, subst}
use Rattle.std.proofs.lemmas.Result.{IfOk-weaker}
use Rattle.hs_text.specs.Report.{IsTableText}
use Rattle.hs_text.proofs.table.table_text.Goals as goal

pub returns : goal.returns
returns c =
    IfOk-weaker c.finish.result _ _ (λ text h.
    let t = c.push_table.ensures h.0 in
    subst (IsTableText c.args.problem.now c.args.table.now) (sym (h.1 ∙ (t.2.bytes h.0 ∙ ap (λ r. r ++ t.0) c.new-text.ensures))) t.1) c.finish.ensures
