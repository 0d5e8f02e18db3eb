use Rattle.std.proofs.Common.{◌≡◌, refl, sym, ◌∙◌, subst, ◌<◌, ◌≤◌, All, length, slice_get, Some}
use Rattle.hs_types.specs.Interned.{InternerData, type_of_id, set_of_id, IsRow}
use Rattle.hs_choices.specs.Numbered.{AreOfStrong}
use Rattle.hs_choices.proofs.Choosing.{none_added, slot_added, slots_all}
use Rattle.hs_choices.proofs.slots.add_slots.Goals as goal

pub loop-place-init : goal.loop-place-init
loop-place-init g c =
    let I = g.T.Comparing.known c.args.types.now in
    record { same = refl; slots = none_added I c.args.rows.now (set_of_id I c.args.set) c.args.slots.now.items }

pub member-ty-requires-clause-set : goal.member-ty-requires-clause-set
member-ty-requires-clause-set g c = subst (λ (I : InternerData). c.args.set < length I.sets) (sym c.loop-place.invariant.same) c.requires.set

pub member-ty-requires-clause-place : goal.member-ty-requires-clause-place
member-ty-requires-clause-place g c =
    subst (λ (I : InternerData). c.loop-place.place < length (set_of_id I c.args.set)) (sym c.loop-place.invariant.same) (subst (λ n. c.loop-place.place < n) c.count-count.ensures c.loop-place-test.true)

pub slot_of-requires-clause-rows : goal.slot_of-requires-clause-rows
slot_of-requires-clause-rows g c = subst (λ (I : InternerData). All (IsRow I) c.args.rows.now) (sym c.loop-place.invariant.same) c.requires.rows

pub loop-place-preserved : goal.loop-place-preserved
loop-place-preserved g c =
    let I = g.T.Comparing.known c.args.types.now in
    let J = g.T.Comparing.known c.loop-place.types in
    let h = c.loop-place.invariant in
    let set = set_of_id I c.args.set in
    let within : c.loop-place.place < length set = subst (λ n. c.loop-place.place < n) c.count-count.ensures c.loop-place-test.true in
    let at : slice_get set c.loop-place.place ≡ Some (type_of_id I c.member-ty.result) =
    subst (λ (K : InternerData). slice_get (set_of_id K c.args.set) c.loop-place.place ≡ Some (type_of_id K c.member-ty.result)) h.same c.member-ty.ensures.is in
    let are : AreOfStrong I c.args.rows.now (type_of_id I c.member-ty.result) c.in_ok-slot.slot =
    subst (λ (K : InternerData). AreOfStrong K c.args.rows.now (type_of_id K c.member-ty.result) c.in_ok-slot.slot) h.same c.in_ok-slot.ensures.slot in
    record {
      same = c.slot_of.ensures.same ∙ h.same;
      slots = slot_added I c.args.rows.now set c.loop-place.place (type_of_id I c.member-ty.result) c.in_ok-slot.slot c.args.slots.now.items c.loop-place.slots.items c.push.new.self.items within at h.slots are c.in_ok-push.ensures.items;
    }

pub returns-in_err-slot-clause-same : goal.returns-in_err-slot-clause-same
returns-in_err-slot-clause-same g c = c.slot_of.ensures.same ∙ c.loop-place.invariant.same

pub returns-in_err-push-clause-same : goal.returns-in_err-push-clause-same
returns-in_err-push-clause-same g c = c.slot_of.ensures.same ∙ c.loop-place.invariant.same

pub returns-clause-slots : goal.returns-clause-slots
returns-clause-slots g c =
    let I = g.T.Comparing.known c.args.types.now in
    slots_all I c.args.rows.now (set_of_id I c.args.set) c.loop-place.place c.args.slots.now.items c.loop-place.slots.items (subst (λ n. n ≤ c.loop-place.place) c.count-count.ensures c.loop-place-test.false) c.loop-place.invariant.slots
