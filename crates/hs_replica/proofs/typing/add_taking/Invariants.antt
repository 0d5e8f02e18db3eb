-- what the arguments so far take is listed
use Rattle.hs_scheme.specs.Tree.{height}
use Rattle.hs_types.specs.Interned.{type_of_id}
use Rattle.hs_replica.specs.Index.{list_at}
use Rattle.hs_replica.proofs.TypeLemmas.{TypeSoFar}
use Rattle.hs_replica.proofs.typing.add_taking.Given as goal

abbrev pub invariant-loop-set : goal.invariant-loop-set
invariant-loop-set l = TypeSoFar l.interner l.point (type_of_id l.interner l.fn.ty) l.rest l.arg l.place (list_at l.initial.lists) (list_at l.lists)

abbrev pub decreases-loop-set : goal.decreases-loop-set
decreases-loop-set l = height (type_of_id l.interner l.rest)
