use Rattle.std.proofs.Common.{◌≡◌, sym, ◌∙◌, true, false}
use Rattle.std.proofs.lemmas.Result.{err_from_is_err_and}
use Rattle.hs_verdict.proofs.Verdict.{accepts_without_start}
use Rattle.hs_checker.specs.Numbers.{entries_of}
use Rattle.hs_checker.proofs.CountLemmas.{closed_whole, count_whole}
use Rattle.hs_checker.proofs.FlawLemmas.{flaw_whole, flaw_fault}
use Rattle.hs_checker.proofs.checking.check_table.Goals as goal

pub check_closed-requires-clause-shape : goal.check_closed-requires-clause-shape
check_closed-requires-clause-shape c = λ e k. ((c.requires.entries e).0 k).1

pub returns-in_err-instances-clause-fault : goal.returns-in_err-instances-clause-fault
returns-in_err-instances-clause-fault c =
    let p = c.args.problem.now in
    let E = entries_of c.args.types.now c.args.rows.now in
    let T = c.args.table.now in
    let f = c.in_err-instances.field-0.0 in
    let fault = flaw_fault p T f (flaw_whole p E T f c.requires.entries c.know_sorted_problem.ensures.automaton c.in_err-instances.ensures.flaw) in
    let e = err_from_is_err_and c.from_residual.result c.from_residual.ensures.1 in
    rw (e.1, e.2) fault

pub returns-then-has_start-clause-fault : goal.returns-then-has_start-clause-fault
returns-then-has_start-clause-fault c =
    (c.in_ok-instances.ensures.flow, (closed_whole c.args.problem.now (entries_of c.args.types.now c.args.rows.now) c.args.table.now c.requires.entries c.in_ok-instances.ensures.closed, c.has_start.ensures.0 c.if-has_start.true))

pub returns-clause-closed : goal.returns-clause-closed
returns-clause-closed c = (
  c.in_ok-instances.ensures.flow,
  (
    closed_whole c.args.problem.now (entries_of c.args.types.now c.args.rows.now) c.args.table.now c.requires.entries c.in_ok-instances.ensures.closed,
    λ start. let f : true ≡ false = sym (c.has_start.ensures.1 start) ∙ c.if-has_start.false in absurd (cc),
  ),
)

pub returns-clause-fault : goal.returns-clause-fault
returns-clause-fault c = tt

pub returns-clause-count : goal.returns-clause-count
returns-clause-count c = count_whole c.args.problem.now (entries_of c.args.types.now c.args.rows.now) c.args.table.now c.requires.entries c.in_ok-instances.instances c.in_ok-instances.ensures.count

pub returns-clause-accepted : goal.returns-clause-accepted
returns-clause-accepted c =
    let p = c.args.problem.now in
    let T = c.args.table.now in
    accepts_without_start p c.know_sorted_problem.ensures c.in_ok-instances.ensures.flow T (closed_whole p (entries_of c.args.types.now c.args.rows.now) T c.requires.entries c.in_ok-instances.ensures.closed)
    (λ start. let f : true ≡ false = sym (c.has_start.ensures.1 start) ∙ c.if-has_start.false in absurd (cc))
