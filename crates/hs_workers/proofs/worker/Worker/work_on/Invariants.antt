-- it works at the same table
use Rattle.std.proofs.Common.{◌≡◌}
use Rattle.hs_workers.proofs.worker.Worker.work_on.Given as goal

abbrev pub invariant-loop : goal.invariant-loop
invariant-loop g l = l.self.table ≡ l.fn.self.table
