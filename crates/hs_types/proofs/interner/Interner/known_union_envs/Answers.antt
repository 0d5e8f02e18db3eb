use Rattle.std.proofs.Common.{refl, length}
use Rattle.hs_types.proofs.UnionLemmas.{known_env_at, union_of_empty}
use Rattle.hs_types.proofs.interner.Interner.known_union_envs.Goals as goal

pub returns-then-is_empty_env : goal.returns-then-is_empty_env
returns-then-is_empty_env c =
    union_of_empty c.self.inside.nodes c.args.self.now (length c.sets.result.now) c.args.a c.args.b c.sets.result.now c.self.view_is c.know_numbers.ensures (c.is_empty_env.ensures c.if-is_empty_env.true) c.sets.ensures.sets refl
    c.requires.a c.requires.b

pub returns-in-Some : goal.returns-in-Some
returns-in-Some c =
    known_env_at c.self.inside.nodes c.args.self.now c.self.inside.set_unions.known.items c.self.inside.env_unions.known.items c.self.invariant c.self.view_is
    c.args.a c.args.b c.in-Some.union c.stored.result c.stored-2.result c.at.result c.stored.ensures c.stored-2.ensures c.at.ensures c.in-Some.ensures
