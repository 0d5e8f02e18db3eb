use Rattle.std.proofs.Common.{◌≡◌, sym, ◌∙◌, ap, subst, ℕ, List, Contains}
use Rattle.hs_table_laws.proofs.Places.{within_from}
use Rattle.hs_rules.specs.Slots.{FilledData}
use Rattle.hs_rules.proofs.Lists.{first_there}
use Rattle.hs_rules.proofs.turns.growth.Goals as goal

pub growing-requires-clause-env : goal.growing-requires-clause-env
growing-requires-clause-env c =
    let item = c.partial-item.result in
    (c.requires item (first_there c.min.result c.args.partials.now item (c.loop-partial.partial-index, c.loop-partial-test.true, sym c.partial-item.is))).0

pub growing-requires-clause-places : goal.growing-requires-clause-places
growing-requires-clause-places c = λ place among.
    let f = c.args.slot.now in
    let items_is : c.as_slice-places.result.now ≡ f.places = c.as_slice-places.ensures ∙ ap (λ (y : FilledData). y.places) c.slot.view_is in
    let there : Contains f.places place = subst (λ (xs : List ℕ). Contains xs place) items_is (first_there c.min-2.result c.as_slice-places.result.now place among) in
    let item = c.partial-item.result in
    let p = (c.requires item (first_there c.min.result c.args.partials.now item (c.loop-partial.partial-index, c.loop-partial-test.true, sym c.partial-item.is))).1 place there in
    within_from c.args.replica.now.log place p.entry p.at
