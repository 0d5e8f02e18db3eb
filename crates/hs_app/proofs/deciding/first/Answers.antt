use Rattle.hs_app.proofs.DecidingLemmas.{problem_is, few_entries, first_asked, supported_start_rejects, first_start, first_is_reported}
use Rattle.hs_app.proofs.deciding.first.Goals as goal

pub rejected-requires-clause-problem : goal.rejected-requires-clause-problem
rejected-requires-clause-problem c = problem_is c.args.problem.now c.args.settings c.args.core.now c.know_core.ensures c.requires.sorted c.requires.shared

pub rejected-requires-clause-few : goal.rejected-requires-clause-few
rejected-requires-clause-few c = few_entries c.args.problem.now c.args.settings c.args.core.now c.know_core.ensures c.requires.sorted c.requires.shared

-- the first start entry was asked for
pub rejected-requires-clause-canonical : goal.rejected-requires-clause-canonical
rejected-requires-clause-canonical c = λ all. absurd (first_asked c.args.problem.now c.args.settings c.args.core.now c.know_core.ensures c.requires.sorted c.requires.shared c.requires.answer all)

pub rejected-requires-clause-reported : goal.rejected-requires-clause-reported
rejected-requires-clause-reported c = first_is_reported c.args.problem.now c.args.settings c.args.core.now c.know_core.ensures c.requires.sorted c.requires.shared c.requires.answer

pub rejected-requires-clause-start : goal.rejected-requires-clause-start
rejected-requires-clause-start c = first_start c.args.problem.now c.args.settings c.args.core.now c.know_core.ensures c.requires.sorted c.requires.shared c.requires.answer

pub rejected-requires-clause-rejects : goal.rejected-requires-clause-rejects
rejected-requires-clause-rejects c = supported_start_rejects c.args.problem.now c.args.settings c.args.core.now c.know_core.ensures c.requires.sorted c.requires.shared (first_start c.args.problem.now c.args.settings c.args.core.now c.know_core.ensures c.requires.sorted c.requires.shared c.requires.answer)
