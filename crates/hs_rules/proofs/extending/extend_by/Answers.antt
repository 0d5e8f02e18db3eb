use Rattle.std.proofs.Common.{◌≡◌, refl, sym, ◌∙◌, ap, subst, ℕ, List, length, get_or, slice_get, Some, Contains, arith}
use Rattle.std.proofs.lemmas.List.{take_all}
use Rattle.std.proofs.lemmas.List.Elements.{Contains-get_or}
use Rattle.std.specs.List.{insert}
use Rattle.hs_table.specs.Entries.{EntryData}
use Rattle.hs_types.specs.Interned.{env_of_id}
use Rattle.hs_types.proofs.Numbers.{env_within, Grows-refl}
use Rattle.hs_replica.specs.Masks.{IsUnionMask}
use Rattle.hs_rules.specs.Order.{chosen_places, IsLess}
use Rattle.hs_rules.specs.Slots.{FilledData}
use Rattle.hs_rules.specs.Joins.{PartialData, IsPlaced}
use Rattle.hs_rules.proofs.KeepLemmas.{keeps_then}
use Rattle.hs_rules.proofs.JoinLemmas.{item_at}
use Rattle.hs_rules.proofs.ExtendLemmas.{placed_now, gathered_at, so_far_then, united_masks, if_united, masks_stay, own_stay, own_at}
use Rattle.hs_rules.proofs.extending.extend_by.Goals as goal

pub join_candidate-requires-clause-env : goal.join_candidate-requires-clause-env
join_candidate-requires-clause-env c =
    let item = c.index-run-place.result in
    let among : Contains c.args.run.now item = (c.loop-place.place, c.loop-place-test.true, sym c.index-run-place.is) in
    env_within c.args.replica.now.ids c.loop-place.replica.ids c.loop-place.invariant.kept.grows item.env (c.requires.can item among).0

pub join_candidate-requires-clause-placed : goal.join_candidate-requires-clause-placed
join_candidate-requires-clause-placed c =
    let I = c.args.replica.now.ids in
    let J = c.loop-place.replica.ids in
    let f = c.args.next.now.slot.now in
    let item = c.index-run-place.result in
    let among : Contains c.args.run.now item = (c.loop-place.place, c.loop-place-test.true, sym c.index-run-place.is) in
    let known = c.requires.can item among in
    let items_is : c.as_slice.result.now ≡ f.places = c.as_slice.ensures ∙ ap (λ (x : FilledData). x.places) c.slot.view_is in
    let k = c.args.number in
    let p = get_or f.places k 0 in
    subst (λ (xs : List ℕ). IsPlaced c.loop-place.replica.log (length (env_of_id J item.env)) (get_or xs k 0)) (sym items_is)
    (subst (λ (l : List EntryData). IsPlaced l (length (env_of_id J item.env)) p) (sym c.loop-place.invariant.kept.log)
    (placed_now I J c.args.replica.now.log item f c.loop-place.invariant.kept.grows known.0 known.1 p (Contains-get_or f.places k 0 c.requires.number)))

pub join_candidate-requires-clause-mask : goal.join_candidate-requires-clause-mask
join_candidate-requires-clause-mask c =
    let I = c.args.replica.now.ids in
    let J = c.loop-place.replica.ids in
    let log = c.args.replica.now.log in
    let f = c.args.next.now.slot.now in
    let masks = c.args.next.now.masks.now in
    let run = c.args.run.now in
    let owns = c.args.owns.now in
    let g = c.loop-place.invariant.kept.grows in
    let index = c.loop-place.place in
    let item = c.index-run-place.result in
    let among : Contains run item = (index, c.loop-place-test.true, sym c.index-run-place.is) in
    let known = c.requires.can item among in
    let items = c.as_slice.result.now in
    let items_is : items ≡ f.places = c.as_slice.ensures ∙ ap (λ (x : FilledData). x.places) c.slot.view_is in
    let k = c.args.number in
    let place = get_or items k 0 in
    let is : place ≡ get_or f.places k 0 = ap (λ (xs : List ℕ). get_or xs k 0) items_is in
    let there : Contains f.places place = subst (λ (p : ℕ). Contains f.places p) (sym is) (Contains-get_or f.places k 0 c.requires.number) in
    let own = c.own_mask-own.result in
    if_united own masks k c.united-mask.result (λ m. (e : EntryData) → slice_get c.loop-place.replica.log place ≡ Some e → IsUnionMask J (env_of_id J item.env) e.env m) c.united-mask.ensures
    (λ m u e at. united_masks J J (Grows-refl J) log item.env f masks k m place own (env_within I J g item.env known.0) (λ p a. placed_now I J log item f g known.0 known.1 p a) (masks_stay I J g log f masks c.requires.masks)
    (own_at J run owns index item own (own_stay I J g run owns (λ x t. (c.requires.can x t).0) c.requires.own) (item_at run index item c.loop-place-test.true c.index-run-place.is) c.own_mask-own.ensures) u is there e
    (sym (ap (λ (l : List EntryData). slice_get l place) c.loop-place.invariant.kept.log) ∙ at))

pub join_candidate-requires-clause-before : goal.join_candidate-requires-clause-before
join_candidate-requires-clause-before c = λ x there.
    let f = c.args.next.now.slot.now in
    let item = c.index-run-place.result in
    let items_is : c.as_slice.result.now ≡ f.places = c.as_slice.ensures ∙ ap (λ (y : FilledData). y.places) c.slot.view_is in
    subst (λ (xs : List ℕ). IsLess (chosen_places x.args) (insert (chosen_places item.args) c.args.next.now.at (get_or xs c.args.number 0))) (sym items_is)
    (c.loop-place.invariant.so.before x there c.loop-place.place item (omega arith) (item_at c.args.run.now c.loop-place.place item c.loop-place-test.true c.index-run-place.is))

pub join_candidate-requires-clause-gathered : goal.join_candidate-requires-clause-gathered
join_candidate-requires-clause-gathered c =
    let f = c.args.next.now.slot.now in
    let item = c.index-run-place.result in
    let among : Contains c.args.run.now item = (c.loop-place.place, c.loop-place-test.true, sym c.index-run-place.is) in
    let known = c.requires.can item among in
    let out = c.loop-place.out in
    let so = c.loop-place.invariant.so in
    gathered_at c.args.replica.now.ids c.loop-place.replica.ids c.args.replica.now.log item f c.loop-place.invariant.kept.grows known.0 known.1 out.seen.keys out.met.masks.keys out.list.items
    (get_or f.places c.args.number 0) (Contains-get_or f.places c.args.number 0 c.requires.number) so.seen so.met so.ascending

pub returns-then-len-next-clause-met : goal.returns-then-len-next-clause-met
returns-then-len-next-clause-met c =
    let f = c.args.next.now.slot.now in
    let old = c.loop-place.out in
    let new = c.join_candidate.new.out in
    (so_far_then c.args.replica.now c.loop-place.replica c.loop-place.replica c.join_candidate.new.replica c.args.run.now f c.args.next.now.at c.args.number c.loop-place.place c.index-run-place.result c.slot.inside.arg c.as_slice.result.now
    c.loop-place.invariant.kept refl c.join_candidate.ensures.kept (ap (λ (y : FilledData). y.arg) c.slot.view_is) (c.as_slice.ensures ∙ ap (λ (y : FilledData). y.places) c.slot.view_is) c.requires.can c.requires.ascends c.requires.long
    c.loop-place-test.true c.index-run-place.is c.args.out.now.list.items old.list.items new.list.items old.seen.keys old.met.masks.keys new.seen.keys new.met.masks.keys c.loop-place.invariant.so c.in_ok-join_candidate.ensures.gathered c.in_ok-join_candidate.ensures.joins).met

pub returns-then-len-next-clause-only : goal.returns-then-len-next-clause-only
returns-then-len-next-clause-only c =
    let f = c.args.next.now.slot.now in
    let old = c.loop-place.out in
    let new = c.join_candidate.new.out in
    (so_far_then c.args.replica.now c.loop-place.replica c.loop-place.replica c.join_candidate.new.replica c.args.run.now f c.args.next.now.at c.args.number c.loop-place.place c.index-run-place.result c.slot.inside.arg c.as_slice.result.now
    c.loop-place.invariant.kept refl c.join_candidate.ensures.kept (ap (λ (y : FilledData). y.arg) c.slot.view_is) (c.as_slice.ensures ∙ ap (λ (y : FilledData). y.places) c.slot.view_is) c.requires.can c.requires.ascends c.requires.long
    c.loop-place-test.true c.index-run-place.is c.args.out.now.list.items old.list.items new.list.items old.seen.keys old.met.masks.keys new.seen.keys new.met.masks.keys c.loop-place.invariant.so c.in_ok-join_candidate.ensures.gathered c.in_ok-join_candidate.ensures.joins).made

pub loop-place-preserved : goal.loop-place-preserved
loop-place-preserved c =
    let f = c.args.next.now.slot.now in
    let old = c.loop-place.out in
    let new = c.join_candidate.new.out in
    record {
      kept = keeps_then c.args.replica.now c.loop-place.replica c.join_candidate.new.replica c.loop-place.invariant.kept c.join_candidate.ensures.kept;
      so = so_far_then c.args.replica.now c.loop-place.replica c.loop-place.replica c.join_candidate.new.replica c.args.run.now f c.args.next.now.at c.args.number c.loop-place.place c.index-run-place.result c.slot.inside.arg c.as_slice.result.now
          c.loop-place.invariant.kept refl c.join_candidate.ensures.kept (ap (λ (y : FilledData). y.arg) c.slot.view_is) (c.as_slice.ensures ∙ ap (λ (y : FilledData). y.places) c.slot.view_is) c.requires.can c.requires.ascends c.requires.long
          c.loop-place-test.true c.index-run-place.is c.args.out.now.list.items old.list.items new.list.items old.seen.keys old.met.masks.keys new.seen.keys new.met.masks.keys c.loop-place.invariant.so c.in_ok-join_candidate.ensures.gathered c.in_ok-join_candidate.ensures.joins;
    }

pub returns-clause-all : goal.returns-clause-all
returns-clause-all c = λ from there e at.
    c.loop-place.invariant.so.all from (subst (λ (xs : List PartialData). Contains xs from) (sym (take_all c.loop-place.place c.args.run.now c.loop-place-test.false)) there) e at
