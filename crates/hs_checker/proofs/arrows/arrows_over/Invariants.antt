-- the sets so far, from the last one on
use Rattle.std.proofs.Common.{◌≡◌, ◌<◌, ◌≤◌, length, drop}
use Rattle.hs_table.specs.Types.{arrows}
use Rattle.hs_types.specs.Interned.{type_of_id, env_of_id, Grows}
use Rattle.hs_checker.proofs.arrows.arrows_over.Given as goal

abbrev pub decreases-loop-left : goal.decreases-loop-left
decreases-loop-left l = l.left

abbrev pub invariant-loop-left : goal.invariant-loop-left
invariant-loop-left l = record {
  grows : Grows l.fn.types l.types;
  most : l.left ≤ length (env_of_id l.fn.types l.env);
  within : l.ty < length l.types.types;
  is : type_of_id l.types l.ty ≡ arrows (drop l.left (env_of_id l.fn.types l.env)) (type_of_id l.fn.types l.fn.rest);
}
