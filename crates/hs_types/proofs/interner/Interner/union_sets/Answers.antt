use Rattle.std.proofs.Common.{◌<◌, subst, length}
use Rattle.hs_types.specs.Interned.{InternerData, set_of_id, IsUnion, Grows}
use Rattle.hs_types.proofs.Numbers.{Grows-refl}
use Rattle.hs_types.proofs.UnionLemmas.{unions_grow, kept_set}
use Rattle.hs_types.proofs.interner.Interner.union_sets.Goals as goal

pub invariant_of-self-in_err-keep : goal.invariant_of-self-in_err-keep
invariant_of-self-in_err-keep c =
    kept_set c.self.inside.nodes c.union_sets.new.self c.args.self.now c.self.inside.set_unions.known.items c.self.inside.env_unions.known.items c.keep.new.self.known.items c.self.invariant c.self.view_is
    c.in_ok-union.ensures.grows c.args.a c.args.b c.in_ok-union.union c.stored.result c.stored-2.result c.stored-3.result c.stored.ensures c.stored-2.ensures c.stored-3.ensures
    c.requires.a c.requires.b c.in_ok-union.ensures.ok c.keep.ensures

pub invariant_of-self-2 : goal.invariant_of-self-2
invariant_of-self-2 c =
    kept_set c.self.inside.nodes c.union_sets.new.self c.args.self.now c.self.inside.set_unions.known.items c.self.inside.env_unions.known.items c.keep.new.self.known.items c.self.invariant c.self.view_is
    c.in_ok-union.ensures.grows c.args.a c.args.b c.in_ok-union.union c.stored.result c.stored-2.result c.stored-3.result c.stored.ensures c.stored-2.ensures c.stored-3.ensures
    c.requires.a c.requires.b c.in_ok-union.ensures.ok c.keep.ensures

pub returns-in-Some-clause-ok : goal.returns-in-Some-clause-ok
returns-in-Some-clause-ok c = (c.in-Some.ensures.within, c.in-Some.ensures.is)

pub returns-in-Some-clause-grows : goal.returns-in-Some-clause-grows
returns-in-Some-clause-grows c = Grows-refl c.args.self.now

pub invariant_of-self : goal.invariant_of-self
invariant_of-self c = unions_grow c.self.inside.nodes c.union_sets.new.self c.self.inside.set_unions.known.items c.self.inside.env_unions.known.items c.union_sets.ensures.grows c.self.invariant

pub returns-in_err-union-clause-grows : goal.returns-in_err-union-clause-grows
returns-in_err-union-clause-grows c = subst (λ (I : InternerData). Grows I c.union_sets.new.self) c.self.view_is c.union_sets.ensures.grows

pub returns-in_err-keep-clause-grows : goal.returns-in_err-keep-clause-grows
returns-in_err-keep-clause-grows c = subst (λ (I : InternerData). Grows I c.union_sets.new.self) c.self.view_is c.union_sets.ensures.grows

pub returns-clause-ok : goal.returns-clause-ok
returns-clause-ok c =
    let J = c.union_sets.new.self in
    let u = c.in_ok-union.union in
    subst (λ (I : InternerData). (u < length J.sets) × IsUnion (set_of_id I c.args.a) (set_of_id I c.args.b) (set_of_id J u)) c.self.view_is c.in_ok-union.ensures.ok

pub returns-clause-grows : goal.returns-clause-grows
returns-clause-grows c = subst (λ (I : InternerData). Grows I c.union_sets.new.self) c.self.view_is c.union_sets.ensures.grows
