-- the sets that are left, before the type so far
use Rattle.std.proofs.Common.{◌≡◌, ◌≤◌, length, take}
use Rattle.hs_table.specs.Types.{arrows}
use Rattle.hs_table.proofs.ty.Ty.arrows.Given as goal

abbrev pub decreases-loop-left : goal.decreases-loop-left
decreases-loop-left l = l.left

abbrev pub invariant-loop-left : goal.invariant-loop-left
invariant-loop-left l = record {
  within : l.left ≤ length l.sets;
  whole : arrows (take l.left l.sets) l.ty ≡ arrows l.sets l.initial.ty;
}
