use Rattle.std.proofs.Common.{◌≡◌, subst, map, slice_get, Some}
use Rattle.std.specs.Result.{IfOk}
use Rattle.hs_types.specs.Interned.{InternerData, set_of_id, Grows}
use Rattle.hs_types.proofs.UnionLemmas.{unions_grow}
use Rattle.hs_types.proofs.interner.Interner.env.Goals as goal

pub invariant_of-self : goal.invariant_of-self
invariant_of-self c = unions_grow c.self.inside.nodes c.add_env.new.self c.self.inside.set_unions.known.items c.self.inside.env_unions.known.items c.add_env.ensures.grows c.self.invariant

pub returns-clause-grows : goal.returns-clause-grows
returns-clause-grows c = subst (λ (I : InternerData). Grows I c.add_env.new.self) c.self.view_is c.add_env.ensures.grows

pub returns-clause-ok : goal.returns-clause-ok
returns-clause-ok c =
    subst (λ (I : InternerData). IfOk c.add_env.result (λ id. slice_get c.add_env.new.self.envs id ≡ Some (map (set_of_id I) c.args.sets.now))) c.self.view_is c.add_env.ensures.ok
