-- a type's result is lower than the type
use Rattle.hs_scheme.specs.Tree.{height}
use Rattle.hs_types.specs.Interned.{type_of_id}
use Rattle.hs_strength.proofs.types.+end_alike.Given as goal

abbrev pub decreases-end_alike : goal.decreases-end_alike
decreases-end_alike l = height (type_of_id l.types.now l.ty)
