use Rattle.std.proofs.Common.{true, ◌≡◌, sym, ◌∙◌, ap, subst, ℕ, ◌-◌, ◌<◌, List, length, get_or, arith, Contains}
use Rattle.std.specs.Bool.{IsTrue}
use Rattle.std.specs.List.{insert}
use Rattle.std.proofs.lemmas.Bool.{OnTrue_at}
use Rattle.std.proofs.lemmas.List.Edits.{length-insert}
use Rattle.std.proofs.lemmas.List.{length-map, get_or_default}
use Rattle.hs_table.specs.Entries.{EntryData}
use Rattle.hs_types.specs.Interned.{env_of_id}
use Rattle.hs_rules.specs.Slots.{FilledData}
use Rattle.hs_rules.specs.Joins.{PartialData, FillsBy, IsMadeOf, IsAmongJoined, CanFill, AreJoined, LeadBySole}
use Rattle.hs_rules.specs.Turns.{IsPlaceAmong, AreTurns, slots_at}
use Rattle.hs_rules.proofs.Lists.{both_are}
use Rattle.hs_rules.proofs.KeepLemmas.{keeps_then}
use Rattle.hs_rules.proofs.JoinLemmas.{joined_as_long, joined_long, joined_next, can_extend}
use Rattle.hs_rules.proofs.SoleLemmas.{lead_sole, lead_all}
use Rattle.hs_rules.proofs.TurnLemmas.{no_slot, no_turns, turn_next, turns_end, turns_few, turns_all, turns_more, slots_more}
use Rattle.hs_rules.proofs.joins.joined_lightest_first.Goals as goal

pub loop-weights-init : goal.loop-weights-init
loop-weights-init c =
    let own = env_of_id c.args.replica.now.ids c.args.own in
    let slots = c.args.slots.now in
    record {
      kept = c.begin.ensures.kept;
      turns = no_turns slots c.new-done.result.items c.new-done.ensures.items;
      lead = subst (λ (ns : List ℕ). LeadBySole c.begin.new.replica.ids c.args.replica.now.log (length own) own slots (slots_at slots ns) true c.begin.new.out.items) (sym c.new-done.ensures.items) c.in_ok-begin.ensures.lead;
    }

pub next_slot-requires-clause-can : goal.next_slot-requires-clause-can
next_slot-requires-clause-can c = λ f there.
    let J = c.loop-weights.replica.ids in
    let lead = c.loop-weights.invariant.lead in
    let later = c.loop-weights.replica.log in
    subst (λ (xs : List PartialData). CanFill J later xs f) (sym c.as_slice-in-loop-weights.ensures)
    (can_extend J c.args.replica.now.log later (length (env_of_id c.args.replica.now.ids c.args.own)) lead.base (slots_at c.args.slots.now c.loop-weights.done.items) f c.loop-weights.whole c.loop-weights.out.items c.loop-weights.invariant.kept.log lead.joined (c.requires.placed f there))

pub join_slot-requires-clause-can : goal.join_slot-requires-clause-can
join_slot-requires-clause-can c =
    let f = c.index-slots-turn.result in
    let lead = c.loop-weights.invariant.lead in
    can_extend c.loop-weights.replica.ids c.args.replica.now.log c.loop-weights.replica.log (length (env_of_id c.args.replica.now.ids c.args.own)) lead.base (slots_at c.args.slots.now c.loop-weights.done.items) f c.loop-weights.whole c.loop-weights.out.items
    c.loop-weights.invariant.kept.log lead.joined (c.requires.placed f (c.in-Some.turn.number, (turn_next c.args.slots.now c.as_slice.result.now c.in_ok-turn.field-0 c.in-Some.turn c.in_ok-turn.ensures c.in-Some.is).within, sym c.index-slots-turn.is))

pub join_slot-requires-clause-sole : goal.join_slot-requires-clause-sole
join_slot-requires-clause-sole c =
    lead_sole c.loop-weights.replica.ids c.args.replica.now.log (length (env_of_id c.args.replica.now.ids c.args.own)) (env_of_id c.args.replica.now.ids c.args.own) c.args.slots.now (slots_at c.args.slots.now c.loop-weights.done.items) c.loop-weights.whole
    c.loop-weights.out.items c.loop-weights.invariant.lead c.loop-weights.replica.log c.index-slots-turn.result c.loop-weights.invariant.kept.log (c.in-Some.turn.number, (turn_next c.args.slots.now c.as_slice.result.now c.in_ok-turn.field-0 c.in-Some.turn c.in_ok-turn.ensures c.in-Some.is).within, sym c.index-slots-turn.is)

pub join_slot-requires-clause-room : goal.join_slot-requires-clause-room
join_slot-requires-clause-room c = λ x there.
    let slots = c.args.slots.now in
    let done = c.loop-weights.done.items in
    let long = joined_long c.loop-weights.replica.ids c.args.replica.now.log (length (env_of_id c.args.replica.now.ids c.args.own)) c.loop-weights.invariant.lead.base (slots_at slots done) c.loop-weights.whole c.loop-weights.out.items c.loop-weights.invariant.lead.joined x there in
    let many : length (slots_at slots done) ≡ length done = length-map done (λ (k : ℕ). get_or slots k no_slot) in
    let within = (subst (λ (ns : List ℕ). IsPlaceAmong ns c.in-Some.turn.number c.in-Some.turn.at) c.as_slice.ensures (turn_next c.args.slots.now c.as_slice.result.now c.in_ok-turn.field-0 c.in-Some.turn c.in_ok-turn.ensures c.in-Some.is).place).within in
    omega (arith, long, many, within)

pub join_slot-requires-clause-long : goal.join_slot-requires-clause-long
join_slot-requires-clause-long c =
    joined_as_long c.loop-weights.replica.ids c.args.replica.now.log (length (env_of_id c.args.replica.now.ids c.args.own)) c.loop-weights.invariant.lead.base (slots_at c.args.slots.now c.loop-weights.done.items) c.loop-weights.whole c.loop-weights.out.items
    c.loop-weights.invariant.lead.joined

pub loop-weights-smaller : goal.loop-weights-smaller
loop-weights-smaller c =
    let slots = c.args.slots.now in
    let done = c.loop-weights.done.items in
    let number = c.in-Some.turn.number in
    let place = subst (λ (ns : List ℕ). IsPlaceAmong ns number c.in-Some.turn.at) c.as_slice.ensures (turn_next c.args.slots.now c.as_slice.result.now c.in_ok-turn.field-0 c.in-Some.turn c.in_ok-turn.ensures c.in-Some.is).place in
    let new = λ (there : Contains done number). (turn_next c.args.slots.now c.as_slice.result.now c.in_ok-turn.field-0 c.in-Some.turn c.in_ok-turn.ensures c.in-Some.is).left (subst (λ (ns : List ℕ). Contains ns number) (sym c.as_slice.ensures) there) in
    let few = turns_few slots (insert done c.in-Some.turn.at number) (turns_more slots done c.loop-weights.invariant.turns number c.in-Some.turn.at (turn_next c.args.slots.now c.as_slice.result.now c.in_ok-turn.field-0 c.in-Some.turn c.in_ok-turn.ensures c.in-Some.is).within new place) in
    let many = length-insert done c.in-Some.turn.at number place.within in
    let is = ap (λ (ns : List ℕ). length ns) c.in_ok-insert.ensures.ok in
    let less : length slots - length c.insert.new.self.items < length slots - length done = omega (arith, few, many, is) in
    less

pub loop-weights-preserved : goal.loop-weights-preserved
loop-weights-preserved c =
    let J = c.loop-weights.replica.ids in
    let K = c.join_slot.new.replica.ids in
    let log = c.args.replica.now.log in
    let slots = c.args.slots.now in
    let done = c.loop-weights.done.items in
    let number = c.in-Some.turn.number in
    let at = c.in-Some.turn.at in
    let f = c.index-slots-turn.result in
    let n = length (env_of_id c.args.replica.now.ids c.args.own) in
    let lead = c.loop-weights.invariant.lead in
    let old = c.loop-weights.out.items in
    let new = c.join_slot.new.partials.items in
    let same = c.loop-weights.invariant.kept.log in
    let whole = c.both-whole.result in
    let place = subst (λ (ns : List ℕ). IsPlaceAmong ns number at) c.as_slice.ensures (turn_next c.args.slots.now c.as_slice.result.now c.in_ok-turn.field-0 c.in-Some.turn c.in_ok-turn.ensures c.in-Some.is).place in
    let absent = λ (there : Contains done number). (turn_next c.args.slots.now c.as_slice.result.now c.in_ok-turn.field-0 c.in-Some.turn c.in_ok-turn.ensures c.in-Some.is).left (subst (λ (ns : List ℕ). Contains ns number) (sym c.as_slice.ensures) there) in
    let some = subst (λ (l : List EntryData). (x : PartialData) → Contains new x → IsMadeOf J K l old f at x) same c.in_ok-complete.ensures.only in
    let all = λ (is : IsTrue c.in_ok-complete.complete). subst (λ (l : List EntryData). (from : PartialData) → Contains old from → (p : ℕ) (e : EntryData) → FillsBy l f p e → IsAmongJoined J K from at p e new) same (OnTrue_at is c.in_ok-complete.ensures.all) in
    let joined = joined_next J K log n lead.base (slots_at slots done) f at c.loop-weights.whole whole old new lead.joined some (λ is_whole. (both_are c.loop-weights.whole c.in_ok-complete.complete (sym c.both-whole.ensures ∙ is_whole)).0)
    (λ is_whole. all (both_are c.loop-weights.whole c.in_ok-complete.complete (sym c.both-whole.ensures ∙ is_whole)).1) c.in_ok-complete.ensures.ascending in
    let slot_is : f ≡ get_or slots number no_slot = c.index-slots-turn.is ∙ get_or_default slots number f no_slot (turn_next c.args.slots.now c.as_slice.result.now c.in_ok-turn.field-0 c.in-Some.turn c.in_ok-turn.ensures c.in-Some.is).within in
    record {
      kept = keeps_then c.args.replica.now c.loop-weights.replica c.join_slot.new.replica c.loop-weights.invariant.kept c.in_ok-complete.ensures.kept;
      turns = subst (λ (ns : List ℕ). AreTurns slots ns) (sym c.in_ok-insert.ensures.ok) (turns_more slots done c.loop-weights.invariant.turns number at (turn_next c.args.slots.now c.as_slice.result.now c.in_ok-turn.field-0 c.in-Some.turn c.in_ok-turn.ensures c.in-Some.is).within absent place);
      lead = record {
        base = lead.base;
        asks = lead.asks;
        joined = subst (λ (ns : List ℕ). AreJoined K log n lead.base (slots_at slots ns) whole new) (sym c.in_ok-insert.ensures.ok)
            (subst (λ (fs : List FilledData). AreJoined K log n lead.base fs whole new) (sym (slots_more slots done c.loop-weights.invariant.turns number at (turn_next c.args.slots.now c.as_slice.result.now c.in_ok-turn.field-0 c.in-Some.turn c.in_ok-turn.ensures c.in-Some.is).within absent place))
            (subst (λ (g : FilledData). AreJoined K log n lead.base (insert (slots_at slots done) at g) whole new) slot_is joined));
      };
    }

pub returns-clause-joined : goal.returns-clause-joined
returns-clause-joined c =
    let own = env_of_id c.args.replica.now.ids c.args.own in
    let slots = c.args.slots.now in
    let done = c.loop-weights.done.items in
    let all = subst (λ (ns : List ℕ). (k : ℕ) → k < length slots → Contains ns k) c.as_slice.ensures (turns_end c.args.slots.now c.as_slice.result.now c.in_ok-turn.field-0 c.in_ok-turn.ensures c.in_default.is) in
    lead_all c.loop-weights.replica.ids c.args.replica.now.log (length own) own slots c.loop-weights.whole c.loop-weights.out.items
    (subst (λ (fs : List FilledData). LeadBySole c.loop-weights.replica.ids c.args.replica.now.log (length own) own slots fs c.loop-weights.whole c.loop-weights.out.items) (turns_all slots done c.loop-weights.invariant.turns all) c.loop-weights.invariant.lead)
