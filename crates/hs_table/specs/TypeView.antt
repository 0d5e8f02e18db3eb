-- What contracts see of a `Ty`.
use Rattle.hs_table.specs.declared.ty.Shape.{Shape}
use Rattle.hs_table.specs.declared.ty.Shape.TheVariants.{State, Arrow}
use Rattle.hs_table.specs.Types.{TypeTree, state, arrow}

abbrev pub type_of : Shape → TypeTree
type_of (State q) = state q
type_of (Arrow set result) = arrow set.items result.value
