use Rattle.std.proofs.Common.{subst, IfOk}
use Rattle.hs_types.specs.Interned.{InternerData, Grows}
use Rattle.hs_choices.specs.Numbered.{IsUnionMade}
use Rattle.hs_choices.proofs.compared.ComparedComparing.union.Goals as goal

pub invariant_of-self : goal.invariant_of-self
invariant_of-self c = c.what_is_remembered_stays.ensures.grown c.self.inside.types c.union_envs.new.self c.self.inside.strengths c.union_envs.ensures.grows c.self.invariant

pub returns-clause-ok : goal.returns-clause-ok
returns-clause-ok c = subst (λ (I : InternerData). IfOk c.union_envs.result (λ u. IsUnionMade I c.union_envs.new.self c.args.env c.args.other u)) c.self.view_is c.union_envs.ensures.ok

pub returns-clause-grows : goal.returns-clause-grows
returns-clause-grows c = subst (λ (I : InternerData). Grows I c.union_envs.new.self) c.self.view_is c.union_envs.ensures.grows
