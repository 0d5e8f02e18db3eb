use Rattle.std.proofs.Common.{length, take, ◌-◌, ◌≡◌, ◌≤◌, ◌++◌, ℕ}
use Rattle.std.specs.Prelude.{replicate}
use Rattle.hs_edge.proofs.whole.write_all.Given as goal

abbrev pub invariant-loop-done : goal.invariant-loop-done
invariant-loop-done g l =
    let writing = g.O.Sink.writing in
    let faults = g.O.Sink.faults in
    record {
      within : l.done ≤ length l.bytes;
      front : (writing l.sink).taken ≡ (writing l.fn.sink).taken ++ take l.done l.bytes;
      each : (writes : ℕ) × ((writing l.sink).aims ≡ (writing l.fn.sink).aims ++ replicate writes ((writing l.fn.sink).taken ++ l.bytes));
      same_faults : faults l.sink ≡ faults l.fn.sink;
    }

abbrev pub decreases-loop-done : goal.decreases-loop-done
decreases-loop-done g l = length l.bytes - l.done
