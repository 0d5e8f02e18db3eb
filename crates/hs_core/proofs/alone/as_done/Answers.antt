use Rattle.std.proofs.Common.{subst}
use Rattle.hs_table.specs.Tables.{IsLeastTable}
use Rattle.hs_scheme.specs.Problem.{ProblemData}
use Rattle.hs_scheme.proofs.Lists.{Contains-at}
use Rattle.hs_core.specs.Core.{log_of}
use Rattle.hs_core.proofs.alone.as_done.Goals as goal

pub returns-in-Quiet-clause-done : goal.returns-in-Quiet-clause-done
returns-in-Quiet-clause-done c = λ base alone. (alone, c.in-Quiet.ensures)

pub returns-in-Quiet-clause-verdict : goal.returns-in-Quiet-clause-verdict
returns-in-Quiet-clause-verdict c = λ closed.
    c.least_tables_decide.ensures c.args.problem.now (log_of c.args.core) c.know_sorted_problem.ensures closed
    (subst (λ (p : ProblemData). IsLeastTable p (log_of c.args.core)) c.requires.problem c.in-Quiet.ensures.least)

pub returns-in-Over-clause-done : goal.returns-in-Over-clause-done
returns-in-Over-clause-done c = λ base alone. (alone, c.in-Over.ensures)

pub returns-in-Found-clause-done : goal.returns-in-Found-clause-done
returns-in-Found-clause-done c = λ base alone.
    let found = c.in-Found.ensures in
    (alone, record { first = found.first; start = (found.start.entry, (found.start.is_start, Contains-at (log_of c.args.core) c.in-Found.place found.start.entry found.start.at)) })

pub answer-requires : goal.answer-requires
answer-requires c = c.requires.ends

pub returns-in-Over-clause-verdict : goal.returns-in-Over-clause-verdict
returns-in-Over-clause-verdict c = λ closed. tt

pub returns-in-Found-clause-verdict : goal.returns-in-Found-clause-verdict
returns-in-Found-clause-verdict c = λ closed. tt
