use Rattle.hs_words.specs.Words.{texts}
use Rattle.hs_app.specs.Order.{ordered}
use Rattle.hs_app.specs.Explaining.{mentions_explain}
use Rattle.hs_front.specs.Outside.{source_run, sink_run}
use Rattle.hs_app.proofs.OutcomeLemmas.{rows}
use Rattle.hs_app.proofs.HeadlineLemmas.{accepted, rejected, decided}
use Rattle.hs_app.proofs.OneReport.{one_report}
use Rattle.hs_app.proofs.top.run.Goals as goal

pub returns-clause-rows : goal.returns-clause-rows
returns-clause-rows g c =
    rows (mentions_explain (texts c.args.words.now)) (ordered _ (texts c.args.words.now))
    (source_run g.S.Source.file g.S.Source.left g.S.Source.reading g.S.Source.faults c.args.source.now c.end.new.source)
    (sink_run g.O.Sink.writing g.O.Sink.faults c.args.out.now c.end.new.out)
    (sink_run g.E.Sink.writing g.E.Sink.faults c.args.err.now c.end.new.err)
    c.end.result c.exit_status.result c.end.ensures.ends c.end.ensures.calm c.exit_status.ensures

pub returns-clause-one_report : goal.returns-clause-one_report
returns-clause-one_report g c =
    one_report (mentions_explain (texts c.args.words.now)) (ordered _ (texts c.args.words.now))
    (source_run g.S.Source.file g.S.Source.left g.S.Source.reading g.S.Source.faults c.args.source.now c.end.new.source)
    (sink_run g.O.Sink.writing g.O.Sink.faults c.args.out.now c.end.new.out)
    (sink_run g.E.Sink.writing g.E.Sink.faults c.args.err.now c.end.new.err)
    c.exit_status.result (returns-clause-rows g c)

pub returns-clause-accepted : goal.returns-clause-accepted
returns-clause-accepted g c = λ e. accepted _ _ _ _ _ c.exit_status.result (texts c.args.words.now) (returns-clause-rows g c) e

pub returns-clause-rejected : goal.returns-clause-rejected
returns-clause-rejected g c = λ e. rejected _ _ _ _ _ c.exit_status.result (texts c.args.words.now) (returns-clause-rows g c) e

pub returns-clause-decided : goal.returns-clause-decided
returns-clause-decided g c = decided _ _ _ _ _ c.exit_status.result (texts c.args.words.now) (returns-clause-rows g c)
