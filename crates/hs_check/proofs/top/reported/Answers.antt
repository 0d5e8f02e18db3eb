use Rattle.std.proofs.Common.{refl, subst, List, ℕ}
use Rattle.hs_front.specs.Outside.{sink_run, HasTakenOrFailed}
use Rattle.hs_check.proofs.Running.{without_report}
use Rattle.hs_check.proofs.top.reported.Goals as goal

pub returns-clause-ends : goal.returns-clause-ends
returns-clause-ends g c = λ files scheme table h.
    let out = sink_run g.O.Sink.writing g.O.Sink.faults c.args.out.now c.args.out.now in
    let err = sink_run g.E.Sink.writing g.E.Sink.faults c.args.err.now c.tell.new.err in
    without_report files scheme table out err c.args.shown c.no_memory.result c.no_memory.ensures (record { same_taken = refl; same_faults = refl })
    (subst (λ (text : List ℕ). HasTakenOrFailed err text) c.as_bytes.ensures.value c.tell.ensures.gains) h
