use Rattle.std.proofs.Common.{sym, ap, subst, ◌∙◌}
use Rattle.hs_flow.specs.Dependents.{HasDependents}
use Rattle.hs_history.specs.Story.{Base}
use Rattle.hs_core.specs.Core.{CoreData, state_of}
use Rattle.hs_core.proofs.Moving.{alone_whole}
use Rattle.hs_core.proofs.alone.saturate_alone.Goals as goal

pub work_alone-requires-clause-flight : goal.work_alone-requires-clause-flight
work_alone-requires-clause-flight c = λ t. ap (λ (x : CoreData). (state_of x).flight t) c.in_ok-core.ensures

pub work_alone-requires-clause-dependents : goal.work_alone-requires-clause-dependents
work_alone-requires-clause-dependents c =
    subst (λ (b : Base). HasDependents b.problem.points b.problem.flow.pairs c.args.dependents.now) (sym (ap (λ (x : CoreData). x.base) c.in_ok-core.ensures)) c.requires.dependents

pub as_done-requires-clause-problem : goal.as_done-requires-clause-problem
as_done-requires-clause-problem c = ap (λ (b : Base). b.problem) (c.work_alone.ensures.goes.base ∙ ap (λ (x : CoreData). x.base) c.in_ok-core.ensures)

pub returns-clause-done : goal.returns-clause-done
returns-clause-done c = c.as_done.ensures.done _ (alone_whole _ c.in_ok-core.core c.work_alone.new.core c.in_ok-core.ensures c.work_alone.ensures.goes)
