use Rattle.std.proofs.Common.{sym, ap, subst, ℕ, ◌<◌, length, get_or}
use Rattle.std.proofs.lemmas.List.Elements.{Contains-get_or}
use Rattle.hs_types.specs.Interned.{InternerData}
use Rattle.hs_rules.specs.Joins.{PartialData}
use Rattle.hs_rules.proofs.turns.growing.Goals as goal

pub row-env-requires : goal.row-env-requires
row-env-requires c = c.requires.places (get_or c.args.places.now c.loop-place.place-index 0) (Contains-get_or c.args.places.now c.loop-place.place-index 0 c.loop-place-test.true)

pub absorbs-requires-clause-env : goal.absorbs-requires-clause-env
absorbs-requires-clause-env c =
    subst (λ (I : InternerData). c.partial.inside.env < length I.envs) (sym c.interner.ensures)
    (subst (λ (n : ℕ). n < length c.args.replica.now.ids.envs) (sym (ap (λ (x : PartialData). x.env) c.partial.view_is)) c.requires.env)
