use Rattle.std.proofs.Common.{sym, ◌∙◌, subst, ℕ, List, length, take, arith, Contains}
use Rattle.std.specs.Bool.{IsTrue}
use Rattle.std.proofs.lemmas.Bool.{OnTrue_at}
use Rattle.std.proofs.lemmas.List.{length-take-le, take_all}
use Rattle.hs_table.specs.Entries.{EntryData}
use Rattle.hs_types.specs.Interned.{env_of_id}
use Rattle.hs_rules.specs.Slots.{FilledData}
use Rattle.hs_rules.specs.Joins.{PartialData, FillsBy, IsMadeOf, IsAmongJoined, AreJoined, LeadBySole}
use Rattle.hs_rules.proofs.Lists.{both_are}
use Rattle.hs_rules.proofs.KeepLemmas.{keeps_then}
use Rattle.hs_rules.proofs.JoinLemmas.{joined_as_long, joined_long, joined_next, can_extend}
use Rattle.hs_rules.proofs.SoleLemmas.{lead_sole, lead_all}
use Rattle.hs_rules.proofs.TurnLemmas.{taken_insert}
use Rattle.hs_rules.proofs.joins.joined_in_order.Goals as goal

pub loop-number-init : goal.loop-number-init
loop-number-init c = record { kept = c.begin.ensures.kept; lead = c.in_ok-begin.ensures.lead }

pub join_slot-requires-clause-ascending : goal.join_slot-requires-clause-ascending
join_slot-requires-clause-ascending c = c.loop-number.invariant.lead.joined.ascending

pub join_slot-requires-clause-can : goal.join_slot-requires-clause-can
join_slot-requires-clause-can c =
    let f = c.index-slots-number.result in
    let lead = c.loop-number.invariant.lead in
    can_extend c.loop-number.replica.ids c.args.replica.now.log c.loop-number.replica.log (length (env_of_id c.args.replica.now.ids c.args.own)) lead.base (take c.loop-number.number c.args.slots.now) f c.loop-number.whole c.loop-number.out.items
    c.loop-number.invariant.kept.log lead.joined (c.requires.placed f (c.loop-number.number, c.loop-number-test.true, sym c.index-slots-number.is))

pub join_slot-requires-clause-sole : goal.join_slot-requires-clause-sole
join_slot-requires-clause-sole c =
    lead_sole c.loop-number.replica.ids c.args.replica.now.log (length (env_of_id c.args.replica.now.ids c.args.own)) (env_of_id c.args.replica.now.ids c.args.own) c.args.slots.now (take c.loop-number.number c.args.slots.now) c.loop-number.whole
    c.loop-number.out.items c.loop-number.invariant.lead c.loop-number.replica.log c.index-slots-number.result c.loop-number.invariant.kept.log (c.loop-number.number, c.loop-number-test.true, sym c.index-slots-number.is)

pub join_slot-requires-clause-room : goal.join_slot-requires-clause-room
join_slot-requires-clause-room c = λ x there.
    let first = take c.loop-number.number c.args.slots.now in
    let long = joined_long c.loop-number.replica.ids c.args.replica.now.log (length (env_of_id c.args.replica.now.ids c.args.own)) c.loop-number.invariant.lead.base first c.loop-number.whole c.loop-number.out.items c.loop-number.invariant.lead.joined x there in
    let many = length-take-le c.loop-number.number c.args.slots.now (omega (arith, c.loop-number-test.true)) in
    omega (arith, long, many)

pub join_slot-requires-clause-long : goal.join_slot-requires-clause-long
join_slot-requires-clause-long c =
    joined_as_long c.loop-number.replica.ids c.args.replica.now.log (length (env_of_id c.args.replica.now.ids c.args.own)) c.loop-number.invariant.lead.base (take c.loop-number.number c.args.slots.now) c.loop-number.whole c.loop-number.out.items
    c.loop-number.invariant.lead.joined

pub loop-number-preserved : goal.loop-number-preserved
loop-number-preserved c =
    let J = c.loop-number.replica.ids in
    let K = c.join_slot.new.replica.ids in
    let log = c.args.replica.now.log in
    let slots = c.args.slots.now in
    let k = c.loop-number.number in
    let f = c.index-slots-number.result in
    let n = length (env_of_id c.args.replica.now.ids c.args.own) in
    let lead = c.loop-number.invariant.lead in
    let old = c.loop-number.out.items in
    let new = c.join_slot.new.partials.items in
    let same = c.loop-number.invariant.kept.log in
    let whole = c.both-whole.result in
    let some = subst (λ (l : List EntryData). (x : PartialData) → Contains new x → IsMadeOf J K l old f k x) same c.in_ok-all.ensures.only in
    let all = λ (is : IsTrue c.in_ok-all.all). subst (λ (l : List EntryData). (from : PartialData) → Contains old from → (p : ℕ) (e : EntryData) → FillsBy l f p e → IsAmongJoined J K from k p e new) same (OnTrue_at is c.in_ok-all.ensures.all) in
    let joined = joined_next J K log n lead.base (take k slots) f k c.loop-number.whole whole old new lead.joined some (λ is_whole. (both_are c.loop-number.whole c.in_ok-all.all (sym c.both-whole.ensures ∙ is_whole)).0)
    (λ is_whole. all (both_are c.loop-number.whole c.in_ok-all.all (sym c.both-whole.ensures ∙ is_whole)).1) c.in_ok-all.ensures.ascending in
    record {
      kept = keeps_then c.args.replica.now c.loop-number.replica c.join_slot.new.replica c.loop-number.invariant.kept c.in_ok-all.ensures.kept;
      lead = record {
        base = lead.base;
        asks = lead.asks;
        joined = subst (λ (fs : List FilledData). AreJoined K log n lead.base fs whole new) (taken_insert slots k f c.loop-number-test.true c.index-slots-number.is) joined;
      };
    }

pub returns-in_err-all-clause-kept : goal.returns-in_err-all-clause-kept
returns-in_err-all-clause-kept c = keeps_then c.args.replica.now c.loop-number.replica c.join_slot.new.replica c.loop-number.invariant.kept c.join_slot.ensures.kept

pub returns-clause-joined : goal.returns-clause-joined
returns-clause-joined c =
    let own = env_of_id c.args.replica.now.ids c.args.own in
    let slots = c.args.slots.now in
    lead_all c.loop-number.replica.ids c.args.replica.now.log (length own) own slots c.loop-number.whole c.loop-number.out.items
    (subst (λ (fs : List FilledData). LeadBySole c.loop-number.replica.ids c.args.replica.now.log (length own) own slots fs c.loop-number.whole c.loop-number.out.items) (take_all c.loop-number.number slots c.loop-number-test.false) c.loop-number.invariant.lead)

pub returns-clause-kept : goal.returns-clause-kept
returns-clause-kept c = c.loop-number.invariant.kept
