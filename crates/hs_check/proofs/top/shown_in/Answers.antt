use Rattle.std.proofs.Common.{sym, subst, Some}
use Rattle.hs_front.specs.Outside.{source_run}
use Rattle.hs_check.specs.declared.fault.Fault.{Fault}
use Rattle.hs_check.specs.Outcome.{HasCause}
use Rattle.hs_check.proofs.Running.{table_answered, table_unread}
use Rattle.hs_check.proofs.top.shown_in.Goals as goal

pub returns-in-Ok-clause-answer : goal.returns-in-Ok-clause-answer
returns-in-Ok-clause-answer g c =
    let run = source_run g.T.Source.file g.T.Source.left g.T.Source.reading g.T.Source.faults c.args.table.now c.read.new.source in
    table_answered c.args.problem.now c.args.name.now run c.as_slice.result.now c.in-Ok.bytes.items c.as_slice.ensures.value c.in-Ok.ensures.answer c.verified.result c.verified.ensures.answers

pub returns-in-Err-clause-answer : goal.returns-in-Err-clause-answer
returns-in-Err-clause-answer g c = λ other scheme yields before.
    let run = source_run g.T.Source.file g.T.Source.left g.T.Source.reading g.T.Source.faults c.args.table.now c.read.new.source in
    subst (λ (f : Fault). HasCause (Some (record { scheme = other; table = c.args.name.now })) scheme run f) (sym c.table_fault.ensures)
    (table_unread c.args.problem.now other c.args.name.now scheme run yields before c.in-Err.refusal c.in-Err.ensures.answer)
