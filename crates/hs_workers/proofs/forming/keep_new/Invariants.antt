-- those so far are kept or known
use Rattle.std.proofs.Common.{◌≡◌, ◌++◌}
use Rattle.hs_workers.specs.Forming.{KeepsNew}
use Rattle.hs_workers.proofs.forming.keep_new.Given as goal

abbrev pub invariant-loop-deduced : goal.invariant-loop-deduced
invariant-loop-deduced l = record {
  keeps : KeepsNew l.replica.ids l.replica.log l.yielded l.fn.found.items l.found.items;
  whole : l.yielded ++ l.deduced-iterator.rest.items ≡ l.fn.formed.items;
}
