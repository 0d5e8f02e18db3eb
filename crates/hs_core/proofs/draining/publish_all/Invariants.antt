-- those so far are in the log
use Rattle.std.proofs.Common.{◌≡◌, ◌++◌, All}
use Rattle.hs_core.specs.Draining.{IsThere}
use Rattle.hs_core.proofs.Moving.{Moves}
use Rattle.hs_core.proofs.draining.publish_all.Given as goal

abbrev pub invariant-loop-deduced : goal.invariant-loop-deduced
invariant-loop-deduced l = record {
  moves : Moves l.worker l.fn.core l.core;
  ids : l.core.ids ≡ l.fn.core.ids;
  there : All (IsThere l.core) l.yielded;
  whole : l.yielded ++ l.deduced-iterator.rest.items ≡ l.fn.found.items;
}
