use Rattle.std.proofs.Common.{◌<◌, ap, subst, sym, length, arith, All, List, ℕ, map, slice_get, ◌≡◌, Some, rules}
use Rattle.std.proofs.lemmas.List.{length_push}
use Rattle.std.proofs.lemmas.Result.{IfOk-weaker}
use Rattle.hs_types.specs.Interned.{set_of_id, env_of_id, IsUnionEnv}
use Rattle.hs_types.proofs.Numbers.{Grows-refl, Grows-trans, env_within}
use Rattle.hs_types.proofs.JoinLemmas.{sets_long, still_long, joined_range, joined_each, joined_all}
use Rattle.hs_types.proofs.interner.Interner.join_envs.Goals as goal

pub union_at-requires-clause-a : goal.union_at-requires-clause-a
union_at-requires-clause-a c = env_within c.args.self.now c.loop-place.self c.loop-place.invariant.grows c.args.a c.requires.a

pub union_at-requires-clause-b : goal.union_at-requires-clause-b
union_at-requires-clause-b c = env_within c.args.self.now c.loop-place.self c.loop-place.invariant.grows c.args.b c.requires.b

pub union_at-requires-clause-in_a : goal.union_at-requires-clause-in_a
union_at-requires-clause-in_a c =
    let I = c.args.self.now in
    let la = still_long I c.loop-place.self c.args.a c.loop-place.invariant.grows c.requires.a in
    omega (arith, c.loop-place-test.true, la, sets_long I c.sets-count.result.now (env_of_id I c.args.a) c.sets-count.ensures.sets)

pub union_at-requires-clause-in_b : goal.union_at-requires-clause-in_b
union_at-requires-clause-in_b c =
    let I = c.args.self.now in
    let lb = still_long I c.loop-place.self c.args.b c.loop-place.invariant.grows c.requires.b in
    omega (arith, c.loop-place-test.true, lb, c.requires.long, sets_long I c.sets-count.result.now (env_of_id I c.args.a) c.sets-count.ensures.sets)

pub returns-in_err-union_at-clause-grows : goal.returns-in_err-union_at-clause-grows
returns-in_err-union_at-clause-grows c = Grows-trans c.args.self.now c.loop-place.self c.union_at.new.self c.loop-place.invariant.grows c.union_at.ensures.grows

pub returns-in_err-push-clause-grows : goal.returns-in_err-push-clause-grows
returns-in_err-push-clause-grows c = Grows-trans c.args.self.now c.loop-place.self c.union_at.new.self c.loop-place.invariant.grows c.union_at.ensures.grows

pub loop-place-preserved : goal.loop-place-preserved
loop-place-preserved c =
    let I = c.args.self.now in
    let J = c.loop-place.self in
    let K = c.union_at.new.self in
    let h = c.loop-place.invariant in
    let us = c.loop-place.unions.items in
    let u = c.in_ok-union_at.field-0 in
    record {
      grows = Grows-trans I J K h.grows c.union_at.ensures.grows;
      long = omega (arith, h.long, length_push us u, ap length c.in_ok-push.ensures.ok);
      range = joined_range I J K h.grows c.union_at.ensures.grows c.args.a c.args.b c.requires.a c.requires.b us c.push.new.self.items c.loop-place.place u h.long h.range c.in_ok-union_at.ensures.ok c.in_ok-push.ensures.ok;
      each = joined_each I J K h.grows c.union_at.ensures.grows c.args.a c.args.b c.requires.a c.requires.b us c.push.new.self.items c.loop-place.place u h.long h.range c.in_ok-union_at.ensures.ok c.in_ok-push.ensures.ok h.each;
    }

pub env_among-requires : goal.env_among-requires
env_among-requires c = subst (λ (zs : List ℕ). All (λ s. s < length c.loop-place.self.sets) zs) (sym c.as_slice.ensures) c.loop-place.invariant.range

pub returns-clause-ok : goal.returns-clause-ok
returns-clause-ok c =
    let I = c.args.self.now in
    let J = c.loop-place.self in
    let K = c.env_among.new.self in
    let h = c.loop-place.invariant in
    let lc = sets_long I c.sets-count.result.now (env_of_id I c.args.a) c.sets-count.ensures.sets in
    IfOk-weaker c.env_among.result (λ id. slice_get K.envs id ≡ Some (map (set_of_id J) c.as_slice.result.now)) (λ id. (id < length K.envs) × IsUnionEnv (env_of_id I c.args.a) (env_of_id I c.args.b) (env_of_id K id))
    (λ id at. joined_all (env_of_id I c.args.a) (env_of_id I c.args.b) J K c.loop-place.unions.items c.as_slice.result.now id c.requires.long
    (omega (arith, h.long, lc, c.loop-place-test.false, c.loop-place.auto.place-end)) (λ k lt. h.each k (omega (arith, lt, lc, c.loop-place-test.false))) c.as_slice.ensures at) c.env_among.ensures.ok

pub returns-clause-grows : goal.returns-clause-grows
returns-clause-grows c = Grows-trans c.args.self.now c.loop-place.self c.env_among.new.self c.loop-place.invariant.grows c.env_among.ensures.grows

pub loop-place-init : goal.loop-place-init
loop-place-init c = record {
  grows = Grows-refl c.args.self.now;
  long = search rules;
  range = search rules;
  each = λ k lt. absurd (omega (arith, lt));
}
