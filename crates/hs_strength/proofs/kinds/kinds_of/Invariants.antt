-- the kinds at the parameters so far
use Rattle.hs_types.specs.Interned.{env_of_id}
use Rattle.hs_strength.proofs.KindBits.{HasKindsBelow}
use Rattle.hs_strength.proofs.kinds.kinds_of.Given as goal

abbrev pub invariant-loop-parameter : goal.invariant-loop-parameter
invariant-loop-parameter l = HasKindsBelow l.parameter (env_of_id l.types l.fn.env) l.kinds
