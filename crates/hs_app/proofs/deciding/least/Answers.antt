use Rattle.hs_core.specs.Core.{log_of}
use Rattle.hs_app.proofs.DecidingLemmas.{problem_is, budget_is, least_table, all_asked, each_starts, fits, begins, lacks_start}
use Rattle.hs_app.proofs.deciding.least.Goals as goal

pub by_canonical_log-requires-clause-all : goal.by_canonical_log-requires-clause-all
by_canonical_log-requires-clause-all c =
    let problem = problem_is c.args.problem.now c.args.settings c.args.core c.know_core.ensures c.requires.sorted c.requires.shared in
    all_asked c.args.problem.now c.args.settings c.args.core c.know_core.ensures c.requires.sorted c.requires.shared c.requires.answer
    (begins c.args.problem.now c.args.core.base.problem (log_of c.args.core) c.start.result c.in-Some._place problem c.in-Some.is c.start.ensures.place)

pub by_canonical_log-requires-clause-problem : goal.by_canonical_log-requires-clause-problem
by_canonical_log-requires-clause-problem c = problem_is c.args.problem.now c.args.settings c.args.core c.know_core.ensures c.requires.sorted c.requires.shared

pub by_canonical_log-requires-clause-least : goal.by_canonical_log-requires-clause-least
by_canonical_log-requires-clause-least c = least_table c.args.problem.now c.args.settings c.args.core c.know_core.ensures c.requires.sorted c.requires.shared c.requires.answer

pub by_canonical_log-requires-clause-few : goal.by_canonical_log-requires-clause-few
by_canonical_log-requires-clause-few c = fits c.args.problem.now c.args.settings c.args.core c.know_core.ensures c.requires.sorted c.requires.shared c.requires.answer

pub by_canonical_log-requires-clause-start : goal.by_canonical_log-requires-clause-start
by_canonical_log-requires-clause-start c =
    let problem = problem_is c.args.problem.now c.args.settings c.args.core c.know_core.ensures c.requires.sorted c.requires.shared in
    each_starts c.args.problem.now c.args.settings c.args.core c.know_core.ensures c.requires.sorted c.requires.shared c.requires.answer
    (begins c.args.problem.now c.args.core.base.problem (log_of c.args.core) c.start.result c.in-Some._place problem c.in-Some.is c.start.ensures.place)

pub by_canonical_log-requires-clause-rejects : goal.by_canonical_log-requires-clause-rejects
by_canonical_log-requires-clause-rejects c = λ accepts.
    let problem = problem_is c.args.problem.now c.args.settings c.args.core c.know_core.ensures c.requires.sorted c.requires.shared in
    c.requires.verdict.0 accepts
    (begins c.args.problem.now c.args.core.base.problem (log_of c.args.core) c.start.result c.in-Some._place problem c.in-Some.is c.start.ensures.place)

pub accepted-requires-clause-budget : goal.accepted-requires-clause-budget
accepted-requires-clause-budget c = budget_is c.args.problem.now c.args.settings c.args.core c.know_core.ensures c.requires.sorted c.requires.shared

pub accepted-requires-clause-least : goal.accepted-requires-clause-least
accepted-requires-clause-least c = least_table c.args.problem.now c.args.settings c.args.core c.know_core.ensures c.requires.sorted c.requires.shared c.requires.answer

-- no place was found
pub accepted-requires-clause-lacks : goal.accepted-requires-clause-lacks
accepted-requires-clause-lacks c =
    let problem = problem_is c.args.problem.now c.args.settings c.args.core c.know_core.ensures c.requires.sorted c.requires.shared in
    lacks_start c.args.problem.now c.args.core.base.problem (log_of c.args.core) c.start.result problem (cc) c.start.ensures.none

pub accepted-requires-clause-accepts : goal.accepted-requires-clause-accepts
accepted-requires-clause-accepts c =
    let problem = problem_is c.args.problem.now c.args.settings c.args.core c.know_core.ensures c.requires.sorted c.requires.shared in
    c.requires.verdict.1 (lacks_start c.args.problem.now c.args.core.base.problem (log_of c.args.core) c.start.result problem (cc) c.start.ensures.none)
