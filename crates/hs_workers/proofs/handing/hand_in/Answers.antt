use Rattle.std.proofs.Common.{sym, ◌∙◌, ap, subst, List, [], ◌∷◌, ◌++◌, append_assoc}
use Rattle.std.proofs.lemmas.List.{nil_from_length}
use Rattle.hs_core.specs.Core.{state_of}
use Rattle.hs_workers.specs.declared.job.Job.{Job}
use Rattle.hs_workers.specs.Jobs.{keys, CarriesAll}
use Rattle.hs_workers.proofs.JobLemmas.{carries_next, all_next}
use Rattle.hs_workers.proofs.HoldLemmas.{goes_trans}
use Rattle.hs_workers.proofs.handing.hand_in.Goals as goal

pub loop-job-preserved : goal.loop-job-preserved
loop-job-preserved c =
    let before = c.loop-job.invariant in
    let now = c.settle-going.ensures in
    let ys = c.loop-job.yielded in
    record {
      goes = goes_trans c.args.seat.now c.loop-job.seat c.settle-going.new.seat c.args.hold.now c.loop-job.hold c.settle-going.new.hold before.goes now.goes;
      exported = now.exported;
      carries = carries_next c.loop-job.seat.known.number c.settle-going.new.seat.known.number (state_of c.loop-job.hold.core).flight (state_of c.settle-going.new.hold.core).flight
          c.loop-job.job-iterator.rest.items c.next.new.self.rest.items c.in-Some.job c.in-Some.ensures.steps.0 now.goes.number now.flight before.carries;
      all = all_next c.loop-job.seat.known.number c.settle-going.new.seat.known.number (state_of c.loop-job.hold.core).flight (state_of c.settle-going.new.hold.core).flight
          c.loop-job.job-iterator.rest.items c.next.new.self.rest.items c.in-Some.job c.in-Some.ensures.steps.0 now.goes.number now.flight before.all;
      whole = append_assoc ys (c.in-Some.job ∷ []) c.next.new.self.rest.items ∙ sym (ap (λ xs. ys ++ xs) c.in-Some.ensures.steps.0) ∙ before.whole;
    }

pub returns-clause-all : goal.returns-clause-all
returns-clause-all c =
    subst (λ (js : List Job). CarriesAll c.loop-job.seat.known.number (state_of c.loop-job.hold.core).flight (keys js)) (nil_from_length c.loop-job.job-iterator.rest.items (sym c.loop-job.job-iterator.rest.ok.0 ∙ c.in-None.ensures.steps.0)) c.loop-job.invariant.all
