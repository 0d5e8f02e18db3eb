-- the types so far are listed
use Rattle.hs_types.specs.Interned.{set_of_id}
use Rattle.hs_replica.specs.declared.key.Key.TheVariants.{Taking}
use Rattle.hs_replica.specs.Index.{list_at, TakesAt}
use Rattle.hs_replica.proofs.SetLemmas.{SoFar}
use Rattle.hs_replica.proofs.typing.add_taken.Given as goal

abbrev pub invariant-loop-ty : goal.invariant-loop-ty
invariant-loop-ty l = SoFar l.interner (Taking l.point l.arg) (TakesAt l.point l.arg (set_of_id l.interner l.fn.set)) l.ty-items l.place l.ty-index (list_at l.initial.lists) (list_at l.lists)
