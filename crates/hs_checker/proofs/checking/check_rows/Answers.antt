use Rattle.std.proofs.Common.{◌≡◌, sym, ◌∙◌, true, false}
use Rattle.std.proofs.lemmas.Result.{err_from_is_err_and}
use Rattle.hs_verdict.proofs.Verdict.{accepts_without_start}
use Rattle.hs_checker.specs.Numbers.{entries_of}
use Rattle.hs_checker.proofs.FlawLemmas.{flaw_fault}
use Rattle.hs_checker.proofs.checking.check_rows.Goals as goal

pub returns-in_err-instances-clause-fault : goal.returns-in_err-instances-clause-fault
returns-in_err-instances-clause-fault c =
    let fault = flaw_fault c.args.problem.now (entries_of c.args.types.now c.args.rows.now) c.in_err-instances.field-0.0 c.in_err-instances.ensures.flaw in
    let e = err_from_is_err_and c.from_residual.result c.from_residual.ensures.1 in
    rw (e.1, e.2) fault

pub returns-then-start-clause-fault : goal.returns-then-start-clause-fault
returns-then-start-clause-fault c = (c.in_ok-instances.ensures.flow, (c.in_ok-instances.ensures.closed, c.has_start_row-start.ensures.0 c.if-start.true))

pub returns-clause-closed : goal.returns-clause-closed
returns-clause-closed c =
    (c.in_ok-instances.ensures.flow, (c.in_ok-instances.ensures.closed, λ start. let f : true ≡ false = sym (c.has_start_row-start.ensures.1 start) ∙ c.if-start.false in absurd (cc)))

pub returns-clause-fault : goal.returns-clause-fault
returns-clause-fault c = tt

pub returns-clause-accepted : goal.returns-clause-accepted
returns-clause-accepted c =
    accepts_without_start c.args.problem.now c.know_sorted_problem.ensures c.in_ok-instances.ensures.flow (entries_of c.args.types.now c.args.rows.now) c.in_ok-instances.ensures.closed
    (λ start. let f : true ≡ false = sym (c.has_start_row-start.ensures.1 start) ∙ c.if-start.false in absurd (cc))
