-- a type's result is lower than the type
use Rattle.hs_scheme.specs.Tree.{height}
use Rattle.hs_types.specs.Interned.{type_of_id}
use Rattle.hs_strength.proofs.last_states.+last_state.Given as goal

abbrev pub decreases-last_state : goal.decreases-last_state
decreases-last_state l = height (type_of_id l.types.now l.ty)
