use Rattle.std.proofs.Common.{refl, sym, length, arith, ℕ, subst}
use Rattle.hs_types.specs.Interned.{set_of_id, env_of_id}
use Rattle.hs_replica.specs.Masks.{AddsBitsOf}
use Rattle.hs_replica.proofs.MaskLemmas.{mask_none_below, mask_more_below, mask_all_below, set_read_at, long_as}
use Rattle.hs_replica.proofs.masks.formed.Goals as goal

pub loop-param-init : goal.loop-param-init
loop-param-init c = mask_none_below c.args.interner.now (length (env_of_id c.args.interner.now c.args.env)) (env_of_id c.args.interner.now c.args.env)

pub loop-param-preserved : goal.loop-param-preserved
loop-param-preserved c =
    let I = c.args.interner.now in
    let E = env_of_id I c.args.env in
    let k = c.loop-param.param in
    let ids = c.sets-sets.result.now in
    let long = long_as (set_of_id I) ids E c.sets-sets.ensures.sets in
    let set = c.index-sets-param.result in
    mask_more_below I (length E) k E (set_of_id I set) c.loop-param.mask c.in_ok-mask.mask (omega (arith, long, c.loop-param-test.true))
    (set_read_at (set_of_id I) ids E k set c.sets-sets.ensures.sets c.loop-param-test.true c.index-sets-param.is) c.loop-param.invariant
    (subst (λ (n : ℕ). AddsBitsOf I n k (set_of_id I set) c.loop-param.mask c.in_ok-mask.mask) (sym long) c.in_ok-mask.ensures)

pub returns : goal.returns
returns c =
    let I = c.args.interner.now in
    let E = env_of_id I c.args.env in
    let long = long_as (set_of_id I) c.sets-sets.result.now E c.sets-sets.ensures.sets in
    mask_all_below I (length E) c.loop-param.param E c.loop-param.mask refl (omega (arith, long, c.loop-param-test.false)) c.loop-param.invariant
