use Rattle.std.proofs.Common.{subst}
use Rattle.hs_core.specs.declared.answers.Done.{Done}
use Rattle.hs_core.specs.Saturation.{IsVerdict}
use Rattle.hs_workers.specs.Answers.{IsSharedDone}
use Rattle.hs_app.proofs.DecidingLemmas.{base_of}
use Rattle.hs_app.proofs.deciding.of_done.Goals as goal

pub over-refusal-requires-clause-shared : goal.over-refusal-requires-clause-shared
over-refusal-requires-clause-shared c = (subst (λ (x : Done). IsSharedDone (base_of c.args.problem.now c.args.settings) c.args.settings.workers x) c.in-Over.is c.requires.done).0

pub over-refusal-requires-clause-answer : goal.over-refusal-requires-clause-answer
over-refusal-requires-clause-answer c = (subst (λ (x : Done). IsSharedDone (base_of c.args.problem.now c.args.settings) c.args.settings.workers x) c.in-Over.is c.requires.done).1

pub first-decided-requires-clause-shared : goal.first-decided-requires-clause-shared
first-decided-requires-clause-shared c = (subst (λ (x : Done). IsSharedDone (base_of c.args.problem.now c.args.settings) c.args.settings.workers x) c.in-First.is c.requires.done).0

pub first-decided-requires-clause-answer : goal.first-decided-requires-clause-answer
first-decided-requires-clause-answer c = (subst (λ (x : Done). IsSharedDone (base_of c.args.problem.now c.args.settings) c.args.settings.workers x) c.in-First.is c.requires.done).1

pub least-requires-clause-shared : goal.least-requires-clause-shared
least-requires-clause-shared c = (subst (λ (x : Done). IsSharedDone (base_of c.args.problem.now c.args.settings) c.args.settings.workers x) c.in-Least.is c.requires.done).0

pub least-requires-clause-answer : goal.least-requires-clause-answer
least-requires-clause-answer c = (subst (λ (x : Done). IsSharedDone (base_of c.args.problem.now c.args.settings) c.args.settings.workers x) c.in-Least.is c.requires.done).1

pub least-requires-clause-verdict : goal.least-requires-clause-verdict
least-requires-clause-verdict c = subst (λ (x : Done). IsVerdict c.args.problem.now x) c.in-Least.is c.requires.verdict

pub returns-in-Over : goal.returns-in-Over
returns-in-Over c = c.over-refusal.ensures c.args.removed
