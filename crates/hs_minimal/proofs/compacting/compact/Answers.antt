use Rattle.std.proofs.Common.{sym, subst, ℕ}
use Rattle.std.specs.Prelude.{IfOk}
use Rattle.hs_scheme.specs.Problem.{ProblemData}
use Rattle.hs_reads.specs.Own.{AreAllPairs}
use Rattle.hs_minimal.specs.Compact.{IsCompactAnswer}
use Rattle.hs_minimal.proofs.compacting.compact.Goals as goal

pub answer-answer-requires-clause-growing : goal.answer-answer-requires-clause-growing
answer-answer-requires-clause-growing c = c.in_ok-growing.ensures.growing c.new-types.result

pub answer-answer-requires-clause-reads : goal.answer-answer-requires-clause-reads
answer-answer-requires-clause-reads c = subst (λ (p : ProblemData). AreAllPairs p c.in_ok-reads.reads) (sym c.in_ok-growing.ensures.problem) c.in_ok-reads.ensures.all

pub returns : goal.returns
returns c =
    subst (λ (n : ℕ). IfOk c.answer-answer.result (IsCompactAnswer c.args.problem.now n)) c.in_ok-growing.ensures.budget
    (subst (λ (p : ProblemData). IfOk c.answer-answer.result (IsCompactAnswer p c.in_ok-growing.growing.budget)) c.in_ok-growing.ensures.problem c.answer-answer.ensures)
