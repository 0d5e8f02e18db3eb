use Rattle.hs_front.specs.Outside.{source_run}
use Rattle.hs_check.proofs.Running.{scheme_answered, scheme_unread}
use Rattle.hs_check.proofs.top.problem_in.Goals as goal

pub returns-in-Ok-clause-answer : goal.returns-in-Ok-clause-answer
returns-in-Ok-clause-answer g c =
    let run = source_run g.S.Source.file g.S.Source.left g.S.Source.reading g.S.Source.faults c.args.scheme.now c.read.new.source in
    scheme_answered c.args.name.now run c.as_slice.result.now c.in-Ok.bytes.items c.as_slice.ensures.value c.in-Ok.ensures.answer c.problem_of_file.result c.problem_of_file.ensures

pub returns-in-Err-clause-answer : goal.returns-in-Err-clause-answer
returns-in-Err-clause-answer g c =
    let run = source_run g.S.Source.file g.S.Source.left g.S.Source.reading g.S.Source.faults c.args.scheme.now c.read.new.source in
    λ other table none. scheme_unread c.args.name.now other run table none c.in-Err.refusal c.in-Err.ensures.answer
