use Rattle.std.proofs.Common.{sym, ◌∙◌, subst, List, All, IfOk, IsTrue}
use Rattle.hs_scheme.specs.Problem.{ProblemData}
use Rattle.hs_flow.specs.Dependents.{HasDependents}
use Rattle.hs_table.specs.Entries.{EntryData, InShape}
use Rattle.hs_history.specs.CoreStep.{IsClosedWork}
use Rattle.hs_core.specs.Core.{log_of}
use Rattle.hs_table_examples.proofs.working.is_done_by.Goals as goal

pub is_closed-requires-clause-shape : goal.is_closed-requires-clause-shape
is_closed-requires-clause-shape c =
    subst (λ (q : ProblemData). All (InShape q) c.copy_log.new.to.log) (sym c.problem.ensures)
    (subst (λ (xs : List EntryData). All (InShape c.args.core.now.base.problem) xs) (sym (c.in_ok-copy_log.ensures ∙ c.replica.ensures.log)) c.are_shaped.ensures)

pub is_closed-requires-clause-dependents : goal.is_closed-requires-clause-dependents
is_closed-requires-clause-dependents c = subst (λ (q : ProblemData). HasDependents q.points q.flow.pairs c.args.dependents.now) (sym c.problem.ensures) c.requires.dependents

pub returns : goal.returns
returns c =
    let answer = c.is_closed.result in
    subst (λ (q : ProblemData). IfOk answer (λ done. IsTrue done → IsClosedWork q (log_of c.args.core.now) c.args.work)) c.problem.ensures
    (subst (λ (xs : List EntryData). IfOk answer (λ done. IsTrue done → IsClosedWork c.problem.result.now xs c.args.work)) (c.in_ok-copy_log.ensures ∙ c.replica.ensures.log) c.is_closed.ensures)
