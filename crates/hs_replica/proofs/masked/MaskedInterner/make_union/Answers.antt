use Rattle.std.proofs.Common.{sym, ◌∙◌, subst, ℕ, length}
use Rattle.hs_types.specs.Interned.{InternerData, set_of_id, env_of_id}
use Rattle.hs_replica.specs.Masks.{IsMask, IsUnionMask}
use Rattle.hs_replica.proofs.MaskLemmas.{masks_grow, mask_grows, long_as}
use Rattle.hs_replica.proofs.UnionMasks.{mask_of_union}
use Rattle.hs_replica.proofs.masked.MaskedInterner.make_union.Goals as goal

pub invariant_of-self : goal.invariant_of-self
invariant_of-self c = masks_grow c.self.inside.interner c.union_envs.new.self c.union_envs.ensures.grows c.self.inside.envs.entries c.self.invariant

pub invariant_of-self-2 : goal.invariant_of-self-2
invariant_of-self-2 c = masks_grow c.self.inside.interner c.union_envs.new.self c.union_envs.ensures.grows c.self.inside.envs.entries c.self.invariant

pub remember-requires-clause-mask : goal.remember-requires-clause-mask
remember-requires-clause-mask c =
    let I = c.self.inside.interner in
    let J = c.union_envs.new.self in
    let g = c.union_envs.ensures.grows in
    let E = env_of_id I c.args.a in
    let F = env_of_id I c.args.b in
    let U = env_of_id J c.in_ok-union.union in
    let u = subst (λ (K : InternerData). IsUnionMask K (env_of_id K c.args.a) (env_of_id K c.args.b) c.args.mask) (sym c.self.view_is) c.requires.mask in
    let is = c.in_ok-union.ensures.ok.1 in
    let m = mask_of_union J E F U c.args.mask (record {
      long = u.long;
      own = u.own;
      other = u.other;
      of_own = mask_grows I J g (length E) u.own E u.of_own;
      of_other = mask_grows I J g (length E) u.other F u.of_other;
      united = u.united;
    }) is in
    subst (λ (n : ℕ). IsMask J n U c.args.mask) (sym is.long ∙ long_as (set_of_id J) c.sets-count.result.now U c.sets-count.ensures.sets) m
