-- the types so far are listed
use Rattle.hs_types.specs.Interned.{set_of_id}
use Rattle.hs_replica.specs.declared.key.Key.TheVariants.{Asking}
use Rattle.hs_replica.specs.Index.{list_at, AsksAt}
use Rattle.hs_replica.proofs.SetLemmas.{SoFar}
use Rattle.hs_replica.proofs.asking.add_asked.Given as goal

abbrev pub invariant-loop-ty : goal.invariant-loop-ty
invariant-loop-ty l = SoFar l.interner (Asking l.point l.param) (AsksAt l.point l.param (set_of_id l.interner l.fn.set)) l.ty-items l.place l.ty-index (list_at l.initial.lists) (list_at l.lists)
