use Rattle.std.proofs.Common.{◌≡◌, sym, ◌∙◌, ap, subst, List, ◌++◌, length, map, All, arith}
use Rattle.std.proofs.lemmas.List.{length-map}
use Rattle.std.proofs.lemmas.Result.{on_ok_weaker}
use Rattle.hs_table.specs.Entries.{EntryData}
use Rattle.hs_table.specs.Tables.{Exceeds}
use Rattle.hs_types.specs.Interned.{InternerData, IsRow, entry_of}
use Rattle.hs_rules.specs.Conclusions.{DeducedData}
use Rattle.hs_rules.proofs.Lists.{along, all_from}
use Rattle.hs_history.specs.Story.{Base}
use Rattle.hs_core.specs.Core.{state_of, log_of}
use Rattle.hs_rank.specs.Ordering.{entries_of, picked, AreInOrder}
use Rattle.hs_rank.specs.Ranked.{IsAtRound, HaveLeastSupports}
use Rattle.hs_rank.proofs.Sorted.{nth}
use Rattle.hs_rank.proofs.Filling.{next_at}
use Rattle.hs_rank.proofs.Adding.{sorted_round, few_new}
use Rattle.hs_rank.proofs.Backing.{supported_next}
use Rattle.hs_canonical.specs.Publishing.{CanPublish}
use Rattle.hs_canonical.proofs.ranking.add_round.Goals as goal

pub places_in_order-requires : goal.places_in_order-requires
places_in_order-requires c =
    let found = c.args.fresh.now.list.items in
    along (λ i. All (λ d. IsRow (sym c.replica.ensures.ids i) d.row) (sym c.as_slice.ensures.value i)) (all_from (λ (d : DeducedData). IsRow c.args.core.now.ids d.row) found (λ d there. (c.requires.fresh d there).deduced.row))

pub publish_round-requires-clause-holds : goal.publish_round-requires-clause-holds
publish_round-requires-clause-holds c = c.requires.ranking.holds

pub publish_round-requires-clause-can : goal.publish_round-requires-clause-can
publish_round-requires-clause-can c =
    let a = c.args.core.now in
    let p = a.base.problem in
    let found = c.args.fresh.now.list.items in
    let places = c.in_ok-places.places.items in
    let order = along (λ i. AreInOrder (c.replica.ensures.ids i) (c.as_slice.ensures.value i) places) c.in_ok-places.ensures in
    let next = sorted_round p a.ids (log_of a) found places c.requires.fresh c.requires.all order in
    let few = few_new p a.base.budget c.requires.ranked.0 (log_of a) (entries_of a.ids (picked found places)) c.requires.ranking.fits c.requires.ranked.1 next in
    subst (λ ps. CanPublish a found ps) (sym c.as_slice-2.ensures.value) (record {
      fresh = c.requires.fresh;
      order = order;
      room = omega (arith, few, length-map (picked found places) (λ (d : DeducedData). entry_of a.ids d.row), length-map places (nth found));
    })

pub returns-clause-base : goal.returns-clause-base
returns-clause-base c = on_ok_weaker c.publish_round.result (λ h. h.base) c.publish_round.ensures

pub returns-clause-at : goal.returns-clause-at
returns-clause-at c =
    let a = c.args.core.now in
    let p = a.base.problem in
    let found = c.args.fresh.now.list.items in
    let places = c.in_ok-places.places.items in
    let order = along (λ i. AreInOrder (c.replica.ensures.ids i) (c.as_slice.ensures.value i) places) c.in_ok-places.ensures in
    let next = sorted_round p a.ids (log_of a) found places c.requires.fresh c.requires.all order in
    on_ok_weaker c.publish_round.result
    (λ h. let log = h.log ∙ ap (λ ps. log_of a ++ entries_of a.ids (picked found ps)) c.as_slice-2.ensures.value in
    subst (λ (L : List EntryData). IsAtRound p (length (log_of a)) L) (sym log) (next_at p c.requires.ranked.0 (log_of a) (entries_of a.ids (picked found places)) c.requires.ranked.1 next)) c.publish_round.ensures

pub returns-clause-ranking : goal.returns-clause-ranking
returns-clause-ranking c =
    let a = c.args.core.now in
    let p = a.base.problem in
    let found = c.args.fresh.now.list.items in
    let places = c.in_ok-places.places.items in
    let order = along (λ i. AreInOrder (c.replica.ensures.ids i) (c.as_slice.ensures.value i) places) c.in_ok-places.ensures in
    let next = sorted_round p a.ids (log_of a) found places c.requires.fresh c.requires.all order in
    on_ok_weaker c.publish_round.result
    (λ h. let log = h.log ∙ ap (λ ps. log_of a ++ entries_of a.ids (picked found ps)) c.as_slice-2.ensures.value in
    let base : a.base ≡ c.publish_round.new.core.base = sym h.base in
    let supports = h.supports ∙ ap (λ ps. (state_of a).supports ++ map (λ (d : DeducedData). d.support) (picked found ps)) c.as_slice-2.ensures.value in
    record {
      fits = subst (λ (b : Base). Exceeds b.problem b.budget → ⊥) (sym h.base) c.requires.ranking.fits;
      holds = h.holds;
      supports =
          along (λ i. HaveLeastSupports (base i).problem (sym log i) (sym supports i))
          (supported_next p c.requires.ranked.0 a.ids (log_of a) found places (state_of a).supports c.requires.fresh c.requires.all c.requires.ranked.1 order next
          c.requires.ranking.supports);
    }) c.publish_round.ensures
