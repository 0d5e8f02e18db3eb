use Rattle.std.proofs.Common.{◌≡◌, ap, ◌∙◌}
use Rattle.hs_history.specs.Story.{Base}
use Rattle.hs_core.specs.Core.{CoreData, log_of}
use Rattle.hs_workers.proofs.AnswerLemmas.{done_shared, verdict_of}
use Rattle.hs_workers.proofs.saturating.saturate.Goals as goal

pub returns-clause-done : goal.returns-clause-done
returns-clause-done g c =
    let base : Base = record { problem = c.args.problem.now; budget = c.args.budget; first = c.args.first } in
    let core = c.in_ok-core-2.core in
    let upon : c.in_ok-core.core.base ≡ base = ap (λ (x : CoreData). x.base) c.in_ok-core.ensures in
    let same : core.base ≡ base = c.in_ok-core-2.ensures.base ∙ upon in
    done_shared base c.args.workers core (record { same = same; by = c.in_ok-core-2.ensures.workers }) c.answer.result c.answer.ensures

pub returns-clause-verdict : goal.returns-clause-verdict
returns-clause-verdict g c =
    let base : Base = record { problem = c.args.problem.now; budget = c.args.budget; first = c.args.first } in
    let core = c.in_ok-core-2.core in
    let upon : c.in_ok-core.core.base ≡ base = ap (λ (x : CoreData). x.base) c.in_ok-core.ensures in
    let same : core.base ≡ base = c.in_ok-core-2.ensures.base ∙ upon in
    λ closed. verdict_of c.args.problem.now core (ap (λ (b : Base). b.problem) same)
    (λ least. c.least_tables_decide.ensures c.args.problem.now (log_of core) c.know_sorted_problem.ensures closed least) c.answer.result c.answer.ensures

pub new-requires-clause-least : goal.new-requires-clause-least
new-requires-clause-least g c = c.requires.least

pub new-requires-clause-greatest : goal.new-requires-clause-greatest
new-requires-clause-greatest g c = c.requires.greatest

pub work-requires-clause-some : goal.work-requires-clause-some
work-requires-clause-some g c κs within = c.requires.some

pub work-requires-clause-few : goal.work-requires-clause-few
work-requires-clause-few g c κs within = c.requires.few

pub work-requires-clause-dependents : goal.work-requires-clause-dependents
work-requires-clause-dependents g c κs within = c.requires.dependents

pub work-requires-clause-problem : goal.work-requires-clause-problem
work-requires-clause-problem g c κs within = ap (λ (x : CoreData). x.base.problem) c.in_ok-core.ensures

pub work-requires-clause-story : goal.work-requires-clause-story
work-requires-clause-story g c κs within = ap (λ (x : CoreData). x.story) c.in_ok-core.ensures
