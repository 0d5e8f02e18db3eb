use Rattle.std.proofs.Common.{◌<◌, sym, subst, length, ℕ}
use Rattle.std.proofs.lemmas.Bool.{eqb-true}
use Rattle.hs_scheme.proofs.Lists.{Contains-at}
use Rattle.hs_types.specs.Interned.{InternerData, env_of_id}
use Rattle.hs_replica.specs.Masks.{IsMask}
use Rattle.hs_replica.proofs.masked.MaskedInterner.find_mask.Goals as goal

pub returns-then-eq : goal.returns-then-eq
returns-then-eq c =
    let I = c.self.inside.interner in
    let key = c.in_ok-key.key.now in
    let own = c.in_ok-key.owner.now in
    let found = c.self.invariant.found key own (Contains-at c.self.inside.envs.entries c.in_ok-place.place.now (key, own) (sym c.in_ok-key.ensures.entry)) in
    subst (λ (K : InternerData). (c.args.env < length K.envs) × IsMask K (length (env_of_id K c.args.env)) (env_of_id K c.args.env) key.mask) c.self.view_is
    (subst (λ (e : ℕ). (e < length I.envs) × IsMask I (length (env_of_id I e)) (env_of_id I e) key.mask) (eqb-true own c.args.env (sym c.if-eq.ensures))
    (found.0, subst (λ (n : ℕ). IsMask I n (env_of_id I own) key.mask) (sym found.1.long) found.1))
