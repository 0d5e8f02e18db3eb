-- so far those that were taken are in their lists, and nothing else
use Rattle.std.proofs.Common.{take}
use Rattle.hs_reads.specs.Becomings.{IsByParameter, AreApart}
use Rattle.hs_reads.proofs.becoming.by_parameter.Given as goal

abbrev pub invariant-loop-becoming : goal.invariant-loop-becoming
invariant-loop-becoming l = record {
  has : IsByParameter l.params (take l.becoming-index l.found) l.lists;
  only : AreApart l.params l.found l.lists;
}
