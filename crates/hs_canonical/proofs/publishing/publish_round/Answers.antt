use Rattle.std.proofs.Common.{◌≡◌, refl, sym, ◌∙◌, subst, ℕ, ◌<◌, List, [], ◌∷◌, length, get_or, slice_get, Some, Contains, arith}
use Rattle.std.proofs.lemmas.List.{take_all}
use Rattle.std.proofs.lemmas.Option.{same_Some}
use Rattle.hs_table_laws.proofs.Places.{within_from}
use Rattle.hs_types.specs.Interned.{IsRow, entry_of}
use Rattle.hs_table.specs.Follows.{FollowsBy}
use Rattle.hs_rules.specs.Conclusions.{DeducedData}
use Rattle.hs_core.specs.Core.{log_of}
use Rattle.hs_rank.specs.Ordering.{picked}
use Rattle.hs_rank.proofs.Sorted.{nth, nth_there}
use Rattle.hs_canonical.specs.Publishing.{HasPublished}
use Rattle.hs_canonical.specs.declared.publishing.TheConstants.{WORKER}
use Rattle.hs_canonical.proofs.Published.{published_none, next_within, next_row, next_follows, next_new, next_fits, next_published}
use Rattle.hs_canonical.proofs.publishing.publish_round.Goals as goal

pub loop-place-init : goal.loop-place-init
loop-place-init c = record { published = published_none WORKER c.args.ticket c.args.core.now c.requires.holds; left = λ k le lt. refl }

pub take_out-deduced-requires : goal.take_out-deduced-requires
take_out-deduced-requires c =
    let n = c.loop-place.place-index in
    let within = next_within WORKER c.args.ticket c.args.core.now c.loop-place.core c.args.found.now.items c.args.places.now c.requires.can n c.loop-place-test.true c.loop-place.invariant.published in
    let at = c.loop-place.invariant.left n (omega arith) c.loop-place-test.true ∙ nth_there c.args.found.now.items (get_or c.args.places.now n 0) within in
    within_from c.loop-place.found.items (get_or c.args.places.now n 0) _ at

-- what is taken out
module _ (found list : List DeducedData) (p : ℕ) (d : DeducedData) (within : p < length found) (left : slice_get list p ≡ slice_get found p) (taken : slice_get list p ≡ Some d) where
  out_is : d ≡ nth found p
  out_is = same_Some d (nth found p) (sym taken ∙ (left ∙ nth_there found p within))

pub publish_new-requires-clause-holds : goal.publish_new-requires-clause-holds
publish_new-requires-clause-holds c = c.loop-place.invariant.published.holds

pub publish_new-requires-clause-row : goal.publish_new-requires-clause-row
publish_new-requires-clause-row c =
    let n = c.loop-place.place-index in
    let a = c.args.core.now in
    let b = c.loop-place.core in
    let found = c.args.found.now.items in
    let places = c.args.places.now in
    let was = c.loop-place.invariant.published in
    let within = next_within WORKER c.args.ticket a b found places c.requires.can n c.loop-place-test.true was in
    let out = out_is found c.loop-place.found.items (get_or places n 0) c.take_out-deduced.result within (c.loop-place.invariant.left n (omega arith) c.loop-place-test.true) c.take_out-deduced.ensures.taken in
    subst (λ (d : DeducedData). IsRow b.ids d.row) (sym out) (next_row WORKER c.args.ticket a b found places c.requires.can n c.loop-place-test.true was)

pub publish_new-requires-clause-follows : goal.publish_new-requires-clause-follows
publish_new-requires-clause-follows c =
    let n = c.loop-place.place-index in
    let a = c.args.core.now in
    let b = c.loop-place.core in
    let found = c.args.found.now.items in
    let places = c.args.places.now in
    let was = c.loop-place.invariant.published in
    let within = next_within WORKER c.args.ticket a b found places c.requires.can n c.loop-place-test.true was in
    let out = out_is found c.loop-place.found.items (get_or places n 0) c.take_out-deduced.result within (c.loop-place.invariant.left n (omega arith) c.loop-place-test.true) c.take_out-deduced.ensures.taken in
    subst (λ (d : DeducedData). FollowsBy b.base.problem (log_of b) d.support (entry_of b.ids d.row)) (sym out) (next_follows WORKER c.args.ticket a b found places c.requires.can n c.loop-place-test.true was)

pub publish_new-requires-clause-new : goal.publish_new-requires-clause-new
publish_new-requires-clause-new c =
    let n = c.loop-place.place-index in
    let a = c.args.core.now in
    let b = c.loop-place.core in
    let found = c.args.found.now.items in
    let places = c.args.places.now in
    let was = c.loop-place.invariant.published in
    let within = next_within WORKER c.args.ticket a b found places c.requires.can n c.loop-place-test.true was in
    let out = out_is found c.loop-place.found.items (get_or places n 0) c.take_out-deduced.result within (c.loop-place.invariant.left n (omega arith) c.loop-place-test.true) c.take_out-deduced.ensures.taken in
    subst (λ (d : DeducedData). Contains (log_of b) (entry_of b.ids d.row) → ⊥) (sym out) (next_new WORKER c.args.ticket a b found places c.requires.can n c.loop-place-test.true was)

pub publish_new-requires-clause-room : goal.publish_new-requires-clause-room
publish_new-requires-clause-room c =
    next_fits WORKER c.args.ticket c.args.core.now c.loop-place.core c.args.found.now.items c.args.places.now c.requires.can c.loop-place.place-index c.loop-place-test.true c.loop-place.invariant.published

pub loop-place-preserved : goal.loop-place-preserved
loop-place-preserved c =
    let n = c.loop-place.place-index in
    let a = c.args.core.now in
    let b = c.loop-place.core in
    let e = c.publish_new.new.core in
    let found = c.args.found.now.items in
    let places = c.args.places.now in
    let was = c.loop-place.invariant.published in
    let within = next_within WORKER c.args.ticket a b found places c.requires.can n c.loop-place-test.true was in
    let out = out_is found c.loop-place.found.items (get_or places n 0) c.take_out-deduced.result within (c.loop-place.invariant.left n (omega arith) c.loop-place-test.true) c.take_out-deduced.ensures.taken in
    record {
      published =
          next_published WORKER c.args.ticket a b found places c.requires.can n c.loop-place-test.true was e
          (subst (λ (d : DeducedData). HasPublished WORKER c.args.ticket b (d ∷ []) e) out c.in_ok-publish_new.ensures);
      left = λ k le lt.
          let other : get_or places k 0 ≡ get_or places n 0 → ⊥ = λ same. c.requires.can.order.once n k 0 (omega (arith, le)) lt (sym same) in
          c.take_out-deduced.ensures.others (get_or places k 0) other ∙ c.loop-place.invariant.left k (omega (arith, le)) lt;
    }

pub returns : goal.returns
returns c =
    subst (λ (ps : List ℕ). HasPublished WORKER c.args.ticket c.args.core.now (picked c.args.found.now.items ps) c.loop-place.core) (take_all c.loop-place.place-index c.args.places.now c.loop-place-test.false) c.loop-place.invariant.published
