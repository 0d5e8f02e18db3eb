-- the masks are those of the environments so far
use Rattle.std.proofs.Common.{◌≡◌, length}
use Rattle.hs_rules.specs.Joins.{AreOwnMasks}
use Rattle.hs_rules.proofs.masks.own_masks.Given as goal

abbrev pub invariant-loop-partial : goal.invariant-loop-partial
invariant-loop-partial l = record {
  kept : l.replica ≡ l.fn.replica;
  long : length l.owns.items ≡ l.partial-index;
  are : AreOwnMasks l.fn.replica.ids l.run l.owns.items;
}
