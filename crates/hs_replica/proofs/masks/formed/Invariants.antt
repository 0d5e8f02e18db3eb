-- the mask has the types of the parameters so far
use Rattle.std.proofs.Common.{length}
use Rattle.hs_types.specs.Interned.{env_of_id}
use Rattle.hs_replica.specs.Masks.{HasMaskBelow}
use Rattle.hs_replica.proofs.masks.formed.Given as goal

abbrev pub invariant-loop-param : goal.invariant-loop-param
invariant-loop-param l = HasMaskBelow l.interner (length (env_of_id l.interner l.fn.env)) l.param (env_of_id l.interner l.fn.env) l.mask
