use Rattle.std.proofs.Common.{subst}
use Rattle.hs_types.specs.Interned.{InternerData, Grows}
use Rattle.hs_replica.proofs.MaskLemmas.{masks_grow}
use Rattle.hs_replica.proofs.masked.MaskedInterner.single_env.Goals as goal

pub invariant_of-self : goal.invariant_of-self
invariant_of-self c = masks_grow c.self.inside.interner c.single_env.new.self c.single_env.ensures.grows c.self.inside.envs.entries c.self.invariant

pub returns-clause-grows : goal.returns-clause-grows
returns-clause-grows c = subst (λ (I : InternerData). Grows I c.single_env.new.self) c.self.view_is c.single_env.ensures.grows
