-- so many sets are empty
use Rattle.hs_types.specs.Interned.{set_of_id}
use Rattle.hs_types.proofs.MakeLemmas.{AreEmpty}
use Rattle.hs_types.proofs.nodes.Nodes.is_empty_env.Given as goal

abbrev pub invariant-loop-set : goal.invariant-loop-set
invariant-loop-set l = AreEmpty (set_of_id l.self) l.sets l.set-index
