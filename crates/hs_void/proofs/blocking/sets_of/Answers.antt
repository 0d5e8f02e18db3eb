use Rattle.std.proofs.Common.{◌≡◌, sym, ◌∙◌, ap, subst, ℕ, ◌<◌, List, [], ◌∷◌, length, map, All, length-append, arith}
use Rattle.hs_table.specs.Entries.{Env}
use Rattle.hs_types.specs.Interned.{InternerData, set_of_id, env_of_id}
use Rattle.hs_types.proofs.Numbers.{env_within, env_stays}
use Rattle.hs_void.proofs.Chosen.{ids_next, ids_all, ids_are, ids_range, set_of_none}
use Rattle.hs_void.proofs.blocking.sets_of.Goals as goal

pub sets-own-requires : goal.sets-own-requires
sets-own-requires c = subst (λ (I : InternerData). c.args.env < length I.envs) (sym c.interner.ensures) (env_within c.args.types.now c.set.new.self c.set.ensures.grows c.args.env c.requires.env)

pub loop-place-preserved : goal.loop-place-preserved
loop-place-preserved c = record {
  sets = ids_next c.sets-own.result.now c.in_ok-none.none c.args.given c.args.args.now c.loop-place.place c.loop-place-test.true c.loop-place.sets.items c.push_reserved.new.self.items c.set_at.result c.loop-place.invariant.sets c.set_at.ensures c.push_reserved.ensures.items;
  long = omega (arith, c.loop-place.invariant.long, ap length c.push_reserved.ensures.items, length-append c.loop-place.sets.items (c.set_at.result ∷ []));
  room = omega (arith, c.push_reserved.ensures.capacity, c.loop-place.invariant.room);
}

pub returns-clause-range : goal.returns-clause-range
returns-clause-range c =
    let J = c.set.new.self in
    let own = c.sets-own.result.now in
    let none = c.in_ok-none.none in
    let range = subst (λ (I : InternerData). All (λ s. s < length I.sets) own) c.interner.ensures c.sets-own.ensures.range in
    subst (λ (ids : List ℕ). All (λ s. s < length J.sets) ids) (sym (ids_all own none c.args.given c.args.args.now c.loop-place.place c.loop-place-test.false c.loop-place.sets.items c.loop-place.invariant.sets))
    (ids_range (length J.sets) own none range c.in_ok-none.ensures.ok.0 c.args.given c.args.args.now)

pub returns-clause-sets : goal.returns-clause-sets
returns-clause-sets c =
    let I = c.args.types.now in
    let J = c.set.new.self in
    let own = c.sets-own.result.now in
    let none = c.in_ok-none.none in
    let us = c.args.args.now in
    let E : Env = env_of_id I c.args.env in
    let is : map (set_of_id J) own ≡ E = subst (λ (K : InternerData). map (set_of_id K) own ≡ env_of_id K c.args.env) c.interner.ensures c.sets-own.ensures.sets ∙ env_stays I J c.set.ensures.grows c.args.env c.requires.env in
    let empty : set_of_id J none ≡ [] = set_of_none (set_of_id J none) c.in_ok-none.ensures.ok.1.exact in
    ap (map (set_of_id J)) (ids_all own none c.args.given us c.loop-place.place c.loop-place-test.false c.loop-place.sets.items c.loop-place.invariant.sets)
    ∙ ids_are (set_of_id J) own none E is empty c.args.given us
