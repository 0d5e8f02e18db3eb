use Rattle.std.proofs.Common.{◌<◌, sym, subst, ℕ, length}
use Rattle.hs_types.specs.Interned.{InternerData, set_of_id, env_of_id, IsUnionEnv}
use Rattle.hs_replica.specs.Masks.{IsMask, IsUnionMask}
use Rattle.hs_replica.proofs.MaskLemmas.{long_as}
use Rattle.hs_replica.proofs.UnionMasks.{union_of_mask}
use Rattle.hs_replica.proofs.masked.MaskedInterner.union_with_mask.Goals as goal

pub returns-in-Some-clause-ok : goal.returns-in-Some-clause-ok
returns-in-Some-clause-ok c =
    let I = c.self.inside.interner in
    let E = env_of_id I c.args.a in
    let F = env_of_id I c.args.b in
    let u = c.in-Some.union in
    let found = subst (λ (K : InternerData). (u < length K.envs) × IsMask K (length c.sets-count.result.now) (env_of_id K u) c.args.mask) (sym c.self.view_is) c.in-Some.ensures in
    let of = subst (λ (K : InternerData). IsUnionMask K (env_of_id K c.args.a) (env_of_id K c.args.b) c.args.mask) (sym c.self.view_is) c.requires.mask in
    let mask = subst (λ (n : ℕ). IsMask I n (env_of_id I u) c.args.mask) (sym (long_as (set_of_id I) c.sets-count.result.now E c.sets-count.ensures.sets)) found.1 in
    subst (λ (K : InternerData). (u < length K.envs) × IsUnionEnv (env_of_id K c.args.a) (env_of_id K c.args.b) (env_of_id K u)) c.self.view_is
    (found.0, union_of_mask I E F (env_of_id I u) c.args.mask of (λ j. c.know_numbers.ensures.env_ascends u j) mask)
