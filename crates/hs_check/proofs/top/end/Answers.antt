use Rattle.std.proofs.Common.{refl}
use Rattle.hs_front.specs.Outside.{source_run, sink_run}
use Rattle.hs_check.proofs.Running.{unverified}
use Rattle.hs_check.proofs.top.end.Goals as goal

pub returns-in-Err-clause-ends : goal.returns-in-Err-clause-ends
returns-in-Err-clause-ends g c =
    unverified _
    (source_run g.S.Source.file g.S.Source.left g.S.Source.reading g.S.Source.faults c.args.scheme.now c.answer.new.scheme)
    (source_run g.T.Source.file g.T.Source.left g.T.Source.reading g.T.Source.faults c.args.table.now c.answer.new.table)
    (sink_run g.O.Sink.writing g.O.Sink.faults c.args.out.now c.args.out.now)
    (sink_run g.E.Sink.writing g.E.Sink.faults c.args.err.now c.refuse.new.err)
    c.in-Err.fault c.refuse.result c.in-Err.ensures.answer (record { same_taken = refl; same_faults = refl }) c.refuse.ensures.tells
