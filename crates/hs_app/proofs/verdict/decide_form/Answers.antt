use Rattle.std.proofs.Common.{sym, ◌∙◌}
use Rattle.hs_app.proofs.VerdictLemmas.{of_problem}
use Rattle.hs_app.proofs.verdict.decide_form.Goals as goal

pub returns-in-Ok : goal.returns-in-Ok
returns-in-Ok g c = λ before same copied.
    let w = c.in-Ok.ensures.problem in
    of_problem c.args.settings before c.args.form _ c.args.removed c.decide_problem-decided.result w c.in-Ok.ensures.rules
    (c.decide_problem-decided.ensures before (c.scheme_before-before.ensures.is before (λ plain. same plain ∙ sym w.same) copied))
