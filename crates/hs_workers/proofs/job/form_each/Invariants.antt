-- those so far are formed
use Rattle.std.proofs.Common.{◌≡◌, ◌++◌, ◌+◌, ◌≤◌, length, All}
use Rattle.std.specs.Vec.{vec_len, vec_capacity}
use Rattle.hs_workers.specs.Jobs.{keys, IsFormed}
use Rattle.hs_workers.proofs.job.form_each.Given as goal

abbrev pub invariant-loop-job : goal.invariant-loop-job
invariant-loop-job g l = record {
  log : l.stock.replica.log ≡ l.fn.stock.replica.log;
  keys : keys l.stock.jobs.items ≡ keys l.yielded;
  formed : All (IsFormed l.common.problem l.stock.replica.ids l.stock.replica.log) l.stock.jobs.items;
  whole : l.yielded ++ l.job-iterator.rest.items ≡ l.fn.stock.jobs.items;
  room : vec_len l.stock.jobs + length l.job-iterator.rest.items ≤ vec_capacity l.stock.jobs;
}
