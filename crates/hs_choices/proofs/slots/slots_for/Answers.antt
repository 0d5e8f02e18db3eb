use Rattle.std.proofs.Common.{◌≡◌, refl, sym, ◌∙◌, subst, ℕ, ◌<◌, List, [], All, length, map, get_or, arith}
use Rattle.std.proofs.lemmas.List.{length-map, get_or_default}
use Rattle.hs_table.specs.Entries.{Env}
use Rattle.hs_types.specs.Interned.{InternerData, set_of_id, IsRow}
use Rattle.hs_choices.specs.Numbered.{AreSlotsAdded, AreOfArguments, no_arguments}
use Rattle.hs_choices.proofs.Choosing.{argument_more, nothing_asked, arguments_all, part_within, map_read}
use Rattle.hs_choices.proofs.slots.slots_for.Goals as goal

pub loop-place-init : goal.loop-place-init
loop-place-init g c =
    let I = g.T.Comparing.known c.args.types.now in
    record { same = refl; slots = subst (λ (z : List (List ℕ)). AreOfArguments I c.args.table.now [] [] z) (sym c.new-slots.ensures.items) no_arguments }

pub add_slots-requires-clause-rows : goal.add_slots-requires-clause-rows
add_slots-requires-clause-rows g c =
    subst (λ (I : InternerData). All (IsRow I) c.rows_at-rows.result.now) (sym c.loop-place.invariant.same)
    (part_within (g.T.Comparing.known c.args.types.now) c.args.table.now _ c.rows_at-rows.result.now c.requires.table c.rows_at-rows.ensures)

pub add_slots-requires-clause-set : goal.add_slots-requires-clause-set
add_slots-requires-clause-set g c =
    let I = g.T.Comparing.known c.args.types.now in
    let k = c.loop-place.place in
    let within : k < length c.args.sets.now = omega (arith, c.loop-place-test.true, c.requires.long) in
    subst (λ (K : InternerData). c.index-sets-place.result < length K.sets) (sym c.loop-place.invariant.same)
    (subst (λ z. z < length I.sets) (sym c.index-sets-place.is) (c.requires.sets k c.index-sets-place.result within))

pub loop-place-preserved : goal.loop-place-preserved
loop-place-preserved g c =
    let I = g.T.Comparing.known c.args.types.now in
    let h = c.loop-place.invariant in
    let k = c.loop-place.place in
    let args = c.args.args.now in
    let ids = c.args.sets.now in
    let id = c.index-sets-place.result in
    let sets : Env = map (set_of_id I) ids in
    let lt : k < length args = c.loop-place-test.true in
    let within_ids : k < length ids = omega (arith, lt, c.requires.long) in
    let within : k < length sets = omega (arith, within_ids, length-map ids (set_of_id I)) in
    let u : ℕ = get_or args k 0 in
    let u_is : u ≡ get_or args k u = get_or_default args k 0 u lt in
    let rows = c.rows_at-rows.result.now in
    let after = c.add_slots.new.slots.items in
    let added : AreSlotsAdded I rows (set_of_id I id) c.loop-place.slots.items after =
    subst (λ (K : InternerData). AreSlotsAdded K rows (set_of_id K id) c.loop-place.slots.items after) h.same c.in_ok-add_slots.ensures.slots in
    record {
      same = c.add_slots.ensures.same ∙ h.same;
      slots = argument_more I c.args.table.now args sets k u (set_of_id I id) lt u_is within (map_read (set_of_id I) ids k id within_ids c.index-sets-place.is) c.loop-place.slots.items after h.slots rows c.rows_at-rows.ensures added;
    }

pub returns-in_err-add_slots-clause-same : goal.returns-in_err-add_slots-clause-same
returns-in_err-add_slots-clause-same g c = c.add_slots.ensures.same ∙ c.loop-place.invariant.same

pub returns-clause-slots : goal.returns-clause-slots
returns-clause-slots g c =
    let I = g.T.Comparing.known c.args.types.now in
    let sets : Env = map (set_of_id I) c.args.sets.now in
    arguments_all I c.args.table.now c.args.args.now sets c.loop-place.place c.loop-place.slots.items (omega (arith, c.loop-place-test.false)) (length-map c.args.sets.now (set_of_id I) ∙ c.requires.long) c.loop-place.invariant.slots

pub count-requires : goal.count-requires
count-requires g c =
    let I = g.T.Comparing.known c.args.types.now in
    let k = c.loop-place.place in
    let within : k < length c.args.sets.now = omega (arith, c.loop-place-test.true, c.requires.long) in
    subst (λ (K : InternerData). c.index-sets-place.result < length K.sets) (sym c.loop-place.invariant.same)
    (subst (λ z. z < length I.sets) (sym c.index-sets-place.is) (c.requires.sets k c.index-sets-place.result within))

pub loop-place-preserved-then-count-eq0 : goal.loop-place-preserved-then-count-eq0
loop-place-preserved-then-count-eq0 g c =
    let I = g.T.Comparing.known c.args.types.now in
    let h = c.loop-place.invariant in
    let k = c.loop-place.place in
    let args = c.args.args.now in
    let ids = c.args.sets.now in
    let id = c.index-sets-place.result in
    let sets : Env = map (set_of_id I) ids in
    let lt : k < length args = c.loop-place-test.true in
    let within_ids : k < length ids = omega (arith, lt, c.requires.long) in
    let within : k < length sets = omega (arith, within_ids, length-map ids (set_of_id I)) in
    let u : ℕ = get_or args k 0 in
    let u_is : u ≡ get_or args k u = get_or_default args k 0 u lt in
    let none : length (set_of_id I id) ≡ 0 = subst (λ (K : InternerData). length (set_of_id K id) ≡ 0) h.same (sym c.count.ensures ∙ c.if-count-eq0.true) in
    record {
      same = h.same;
      slots = nothing_asked I c.args.table.now args sets k u (set_of_id I id) lt u_is within (map_read (set_of_id I) ids k id within_ids c.index-sets-place.is) none c.loop-place.slots.items h.slots;
    }
