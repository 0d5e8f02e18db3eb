use Rattle.std.proofs.Common.{subst}
use Rattle.hs_types.specs.Interned.{InternerData, Grows}
use Rattle.hs_types.proofs.UnionLemmas.{unions_grow}
use Rattle.hs_types.proofs.interner.Interner.import_with.Goals as goal

pub invariant_of-self : goal.invariant_of-self
invariant_of-self c = unions_grow c.self.inside.nodes c.import_row.new.self c.self.inside.set_unions.known.items c.self.inside.env_unions.known.items c.import_row.ensures.grows c.self.invariant

pub returns-clause-grows : goal.returns-clause-grows
returns-clause-grows c = subst (λ (I : InternerData). Grows I c.import_row.new.self) c.self.view_is c.import_row.ensures.grows
