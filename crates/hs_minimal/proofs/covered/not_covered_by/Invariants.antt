-- those of them so far
use Rattle.std.proofs.Common.{◌≡◌, take}
use Rattle.hs_minimal.specs.Growing.{AreLeft}
use Rattle.hs_minimal.proofs.covered.not_covered_by.Given as goal

abbrev pub invariant-loop-own : goal.invariant-loop-own
invariant-loop-own l = record {
  same : l.types ≡ l.fn.types;
  left : AreLeft l.fn.types l.row (take l.own-index l.rows) l.left.items;
}
