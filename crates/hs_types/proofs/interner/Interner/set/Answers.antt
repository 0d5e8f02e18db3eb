use Rattle.std.proofs.Common.{subst}
use Rattle.hs_types.specs.Interned.{InternerData, Grows}
use Rattle.hs_types.proofs.UnionLemmas.{unions_grow}
use Rattle.hs_types.proofs.interner.Interner.set.Goals as goal

pub invariant_of-self : goal.invariant_of-self
invariant_of-self c = unions_grow c.self.inside.nodes c.set.new.self c.self.inside.set_unions.known.items c.self.inside.env_unions.known.items c.set.ensures.grows c.self.invariant

pub returns-clause-grows : goal.returns-clause-grows
returns-clause-grows c = subst (λ (I : InternerData). Grows I c.set.new.self) c.self.view_is c.set.ensures.grows
