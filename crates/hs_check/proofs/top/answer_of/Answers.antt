use Rattle.std.proofs.Common.{refl}
use Rattle.hs_front.specs.Outside.{source_run}
use Rattle.hs_check.proofs.OwnNames.{states_of, rules_of, closed_flow}
use Rattle.hs_check.proofs.Accepting.{accepted_file}
use Rattle.hs_check.proofs.Running.{on_ok}
use Rattle.hs_check.proofs.top.answer_of.Goals as goal

pub shown_in-shown-requires-clause-states : goal.shown_in-shown-requires-clause-states
shown_in-shown-requires-clause-states g c = states_of _ _ c.in-Ok.ensures.answer.0

pub shown_in-shown-requires-clause-rules : goal.shown_in-shown-requires-clause-rules
shown_in-shown-requires-clause-rules g c = rules_of _ _ c.in-Ok.ensures.answer.0

pub shown_in-shown-requires-clause-flow : goal.shown_in-shown-requires-clause-flow
shown_in-shown-requires-clause-flow g c = closed_flow _ _ c.in-Ok.ensures.answer.0

pub returns-in-Ok-clause-answer : goal.returns-in-Ok-clause-answer
returns-in-Ok-clause-answer g c =
    let run = source_run g.S.Source.file g.S.Source.left g.S.Source.reading g.S.Source.faults c.args.scheme.now c.problem_in.new.scheme in
    c.shown_in-shown.ensures.answer c.args.files.scheme.now run c.in-Ok.ensures.answer.0 c.in-Ok.ensures.answer.1

pub returns-in-Ok-clause-accepted : goal.returns-in-Ok-clause-accepted
returns-in-Ok-clause-accepted g c = on_ok c.shown_in-shown.result _ _ (accepted_file _ _ c.in-Ok.ensures.answer.0) c.shown_in-shown.ensures.accepted

pub returns-in-Err-clause-answer : goal.returns-in-Err-clause-answer
returns-in-Err-clause-answer g c =
    c.in-Err.ensures.answer c.args.files.table.now (source_run g.T.Source.file g.T.Source.left g.T.Source.reading g.T.Source.faults c.args.table.now c.args.table.now)
    (record { same_reading = refl; same_left = refl })
