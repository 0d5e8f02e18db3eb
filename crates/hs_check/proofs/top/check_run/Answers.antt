use Rattle.hs_front.specs.Outside.{source_run, sink_run}
use Rattle.hs_check.proofs.Complying.{rows, verified}
use Rattle.hs_check.proofs.top.check_run.Goals as goal

pub returns-clause-rows : goal.returns-clause-rows
returns-clause-rows g c =
    rows _
    (source_run g.S.Source.file g.S.Source.left g.S.Source.reading g.S.Source.faults c.args.scheme.now c.end.new.scheme)
    (source_run g.T.Source.file g.T.Source.left g.T.Source.reading g.T.Source.faults c.args.table.now c.end.new.table)
    (sink_run g.O.Sink.writing g.O.Sink.faults c.args.out.now c.end.new.out)
    (sink_run g.E.Sink.writing g.E.Sink.faults c.args.err.now c.end.new.err)
    c.end.result c.exit_status.result c.end.ensures.ends c.end.ensures.calm c.exit_status.ensures

pub returns-clause-verified : goal.returns-clause-verified
returns-clause-verified g c =
    verified
    (source_run g.S.Source.file g.S.Source.left g.S.Source.reading g.S.Source.faults c.args.scheme.now c.end.new.scheme)
    (source_run g.T.Source.file g.T.Source.left g.T.Source.reading g.T.Source.faults c.args.table.now c.end.new.table)
    (sink_run g.O.Sink.writing g.O.Sink.faults c.args.out.now c.end.new.out)
    (sink_run g.E.Sink.writing g.E.Sink.faults c.args.err.now c.end.new.err)
    _ c.end.result c.exit_status.result c.end.ensures.ends c.end.ensures.accepted c.exit_status.ensures
