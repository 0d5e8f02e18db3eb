use Rattle.std.proofs.Common.{◌≡◌, sym, ◌∙◌, ap, subst, [], ◌∷◌, ◌++◌, length, All, append_assoc, arith}
use Rattle.std.proofs.lemmas.List.Elements.{All-push, All-weaker}
use Rattle.hs_workers.specs.Jobs.{keys, IsFormed}
use Rattle.hs_workers.proofs.FormingLemmas.{job_grown}
use Rattle.hs_workers.proofs.JobLemmas.{keys_append}
use Rattle.hs_workers.proofs.job.form_each.Goals as goal

pub loop-job-preserved : goal.loop-job-preserved
loop-job-preserved g c =
    let before = c.loop-job.invariant in
    let p = c.args.common.now.problem in
    let I = c.loop-job.stock.replica.ids in
    let J = c.formed-done.new.replica.ids in
    let log = c.loop-job.stock.replica.log in
    let after = c.formed-done.new.replica.log in
    let ys = c.loop-job.yielded in
    let jobs = c.loop-job.stock.jobs.items in
    let job = c.in-Some.job in
    let new = c.formed-done.result in
    let items : c.push_reserved.new.self.items ≡ jobs ++ new ∷ [] = c.push_reserved.ensures.items in
    record {
      log = c.formed-done.ensures.log ∙ before.log;
      keys = ap (λ xs. keys xs) items ∙ keys_append jobs (new ∷ [])
          ∙ (λ i. before.keys i ++ (c.formed-done.ensures.ticket i, c.formed-done.ensures.work i) ∷ [])
          ∙ sym (keys_append ys (job ∷ []));
      formed = subst (λ xs. All (IsFormed p J after) xs) (sym items)
          (All-push (IsFormed p J after) jobs new
          (All-weaker (IsFormed p I log) (IsFormed p J after) (λ j h. subst (λ xs. IsFormed p J xs j) (sym c.formed-done.ensures.log) (job_grown p I J log j c.formed-done.ensures.grows h)) jobs before.formed)
          c.formed-done.ensures.formed);
      whole = append_assoc ys (job ∷ []) c.next.new.self.rest.items ∙ sym (ap (λ xs. ys ++ xs) c.in-Some.ensures.steps.0) ∙ before.whole;
      room = omega (arith, before.room, c.push_reserved.ensures.len, c.push_reserved.ensures.capacity, ap length c.in-Some.ensures.steps.0);
    }
