use Rattle.std.proofs.Common.{◌<◌, sym, subst, length}
use Rattle.hs_types.specs.Interned.{InternerData, env_of_id}
use Rattle.hs_replica.specs.Masks.{IsMask}
use Rattle.hs_replica.proofs.MaskKeys.{noted_env}
use Rattle.hs_replica.proofs.masked.MaskedInterner.remember.Goals as goal

pub invariant_of-self-2 : goal.invariant_of-self-2
invariant_of-self-2 c =
    let a = c.self.inside in
    noted_env a.interner a.envs.entries c.self.invariant c.args.env c.args.count c.args.mask (subst (λ (I : InternerData). c.args.env < length I.envs) (sym c.self.view_is) c.requires.env)
    (subst (λ (I : InternerData). IsMask I c.args.count (env_of_id I c.args.env) c.args.mask) (sym c.self.view_is) c.requires.mask) c.insert_full.new.self.entries c.in_ok-place.ensures.entries
