-- the worker's seat holds the table
use Rattle.hs_workers_examples.specs.Working.{IsHolder}
use Rattle.hs_workers_examples.proofs.calls.make_held_calls.Given as goal

abbrev pub invariant-loop-row : goal.invariant-loop-row
invariant-loop-row g l = IsHolder l.table l.problem l.worker.seat l.hold l.worker.replica.log l.worker.held
