use Rattle.std.proofs.Common.{subst}
use Rattle.hs_types.specs.Interned.{InternerData, Grows}
use Rattle.hs_replica.proofs.MaskLemmas.{masks_grow}
use Rattle.hs_replica.proofs.masked.MaskedInterner.set.Goals as goal

pub invariant_of-self : goal.invariant_of-self
invariant_of-self c = masks_grow c.self.inside.interner c.set.new.self c.set.ensures.grows c.self.inside.envs.entries c.self.invariant

pub returns-clause-grows : goal.returns-clause-grows
returns-clause-grows c = subst (λ (I : InternerData). Grows I c.set.new.self) c.self.view_is c.set.ensures.grows
