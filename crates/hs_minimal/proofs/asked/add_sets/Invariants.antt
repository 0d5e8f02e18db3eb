-- those of the sets so far are there
use Rattle.std.proofs.Common.{take}
use Rattle.hs_minimal.specs.Strongest.{AddsTypes, HaveArrows}
use Rattle.hs_minimal.proofs.asked.add_sets.Given as goal

abbrev pub invariant-loop-set : goal.invariant-loop-set
invariant-loop-set l = record {
  adds : AddsTypes l.types l.fn.found.keys l.found.keys;
  own : HaveArrows l.types l.found.keys (take l.set-index l.sets);
  seen : HaveArrows l.types l.found.keys l.seen.keys;
}
