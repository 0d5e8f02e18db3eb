-- the workers are what they were
use Rattle.hs_workers_examples.specs.Working.{IsWorker, IsSameSeat}
use Rattle.hs_workers_examples.proofs.calls.make_calls.Given as goal

abbrev pub invariant-loop-row : goal.invariant-loop-row
invariant-loop-row g l = record {
  zero : IsWorker l.table l.problem l.zero.seat l.zero.replica.log l.zero.held;
  one : IsWorker l.table l.problem l.one.seat l.one.replica.log l.one.held;
  two : IsWorker l.table l.problem l.two.seat l.two.replica.log l.two.held;
  same : IsSameSeat l.fn.zero.seat l.zero.seat;
}
