-- a type's result is lower than the type
use Rattle.hs_scheme.specs.Tree.{height}
use Rattle.hs_types.specs.Interned.{type_of_id}
use Rattle.hs_minimal.proofs.asked.+add_before.Given as goal

abbrev pub decreases-add_before : goal.decreases-add_before
decreases-add_before l = height (type_of_id l.types.now l.ty)
