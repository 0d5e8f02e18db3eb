-- the sets so far are of types in shape
use Rattle.std.proofs.Common.{take}
use Rattle.hs_types.specs.Interned.{env_of_id}
use Rattle.hs_checker.proofs.ShapeLemmas.{AreGood}
use Rattle.hs_certificate_checker.proofs.row_shape.is_env.Given as goal

abbrev pub invariant-loop-set : goal.invariant-loop-set
invariant-loop-set l = AreGood l.states (take l.set-index (env_of_id l.interner l.fn.env))
