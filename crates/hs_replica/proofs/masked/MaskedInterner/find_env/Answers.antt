use Rattle.std.proofs.Common.{◌<◌, sym, subst, length}
use Rattle.hs_types.specs.Interned.{InternerData, env_of_id}
use Rattle.hs_replica.specs.Masks.{IsMask}
use Rattle.hs_replica.proofs.MaskKeys.{found_env}
use Rattle.hs_replica.proofs.masked.MaskedInterner.find_env.Goals as goal

pub returns : goal.returns
returns c =
    let env = c.in_ok-env.env.now in
    subst (λ (I : InternerData). (env < length I.envs) × IsMask I c.args.count (env_of_id I env) c.args.mask) c.self.view_is
    (c.self.invariant.found (record { mask = c.args.mask; count = c.args.count }) env (found_env (record { mask = c.args.mask; count = c.args.count }) c.self.inside.envs.entries env (sym c.in_ok-env.ensures.value)))
