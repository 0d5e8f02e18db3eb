use Rattle.std.proofs.Common.{sym, ◌∙◌, ap, subst, List, [], ◌∷◌, ◌++◌, append_assoc}
use Rattle.hs_history.specs.Story.{Base}
use Rattle.std.proofs.lemmas.List.{nil_from_length}
use Rattle.hs_core.specs.Core.{state_of}
use Rattle.hs_workers.specs.declared.job.Job.{Job}
use Rattle.hs_workers.specs.Jobs.{keys, CarriesAll}
use Rattle.hs_workers.proofs.JobLemmas.{carries_next, all_next}
use Rattle.hs_workers.proofs.HoldLemmas.{goes_trans}
use Rattle.hs_workers.proofs.handing.do_each.Goals as goal

pub loop-job-preserved : goal.loop-job-preserved
loop-job-preserved c =
    let before = c.loop-job.invariant in
    let now = c.do_one-going.ensures in
    let ys = c.loop-job.yielded in
    record {
      goes = goes_trans c.args.seat.now c.loop-job.seat c.do_one-going.new.seat c.args.hold.now c.loop-job.hold c.do_one-going.new.hold before.goes now.goes;
      carries = carries_next c.loop-job.seat.known.number c.do_one-going.new.seat.known.number (state_of c.loop-job.hold.core).flight (state_of c.do_one-going.new.hold.core).flight
          c.loop-job.job-iterator.rest.items c.next.new.self.rest.items c.in-Some.job c.in-Some.ensures.steps.0 now.goes.number now.flight before.carries;
      all = all_next c.loop-job.seat.known.number c.do_one-going.new.seat.known.number (state_of c.loop-job.hold.core).flight (state_of c.do_one-going.new.hold.core).flight
          c.loop-job.job-iterator.rest.items c.next.new.self.rest.items c.in-Some.job c.in-Some.ensures.steps.0 now.goes.number now.flight before.all;
      whole = append_assoc ys (c.in-Some.job ∷ []) c.next.new.self.rest.items ∙ sym (ap (λ xs. ys ++ xs) c.in-Some.ensures.steps.0) ∙ before.whole;
    }

pub do_one-going-requires-clause-upon : goal.do_one-going-requires-clause-upon
do_one-going-requires-clause-upon c = ap (λ (b : Base). b.problem) c.loop-job.invariant.goes.base ∙ c.requires.upon

pub returns-clause-all : goal.returns-clause-all
returns-clause-all c =
    subst (λ (js : List Job). CarriesAll c.loop-job.seat.known.number (state_of c.loop-job.hold.core).flight (keys js)) (nil_from_length c.loop-job.job-iterator.rest.items (sym c.loop-job.job-iterator.rest.ok.0 ∙ c.in-None.ensures.steps.0)) c.loop-job.invariant.all
