-- What stands in a `Ty` is lower than it.
use Rattle.std.specs.Prelude.{◌≤◌, max}
use Rattle.std.proofs.Common.{arith}
use Rattle.hs_scheme.specs.Tree.{height, most_le-heights}
use Rattle.hs_table.specs.declared.ty.Shape.{Shape}
use Rattle.hs_table.specs.declared.ty.Shape.TheVariants.{State, Arrow}
use Rattle.hs_table.specs.declared.ty.Ty.TheDeep.{deep-Shape}
use Rattle.hs_table.specs.TypeView.{type_of}

pub depth_le-height : (s : Shape) → max (deep-Shape s) 0 ≤ height (type_of s)
depth_le-height (State q) = omega arith
depth_le-height (Arrow set result) = omega (arith, most_le-heights set.items)
