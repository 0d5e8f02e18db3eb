use Rattle.std.proofs.Common.{◌≡◌, sym, ◌∙◌, ap, subst, ℕ, ◌<◌, List, ◌∷◌, [], length, map, take, refl, arith, Contains, ◌↔◌}
use Rattle.std.proofs.lemmas.Bool.{eqb-true}
use Rattle.std.proofs.lemmas.List.Elements.{Contains-get_or}
use Rattle.hs_table.specs.Types.{TypeTree}
use Rattle.hs_table.specs.Entries.{EntryData}
use Rattle.hs_types.specs.Interned.{InternerData, type_of_id, set_of_id}
use Rattle.hs_replica.specs.Replica.{ReplicaData}
use Rattle.hs_rules.specs.Slots.{SlotData, FilledData, slots_of, IsCandidate}
use Rattle.hs_rules.specs.Filling.{fixed_of, GainsFilled}
use Rattle.hs_rules.proofs.Lists.{push_later}
use Rattle.hs_rules.proofs.KeepLemmas.{lists_then, as_before}
use Rattle.hs_rules.proofs.FillLemmas.{gains_then, gains_one, next_of_types, members_long, member_is}
use Rattle.hs_rules.proofs.search.fill_set.Goals as goal

pub loop-number-preserved : goal.loop-number-preserved
loop-number-preserved c =
    let r = c.args.replica.now in
    let now = c.loop-number.replica in
    let kept = c.loop-number.invariant.kept in
    let ids = r.ids in
    let E = take c.args.search.now.limit r.log in
    let fixed = fixed_of r.log c.args.search.now.fixed in
    let set = set_of_id ids c.args.set in
    let items = c.members.result.now in
    let t = c.index-members-number.result in
    let k = c.loop-number.number in
    let first = subst (λ (I : InternerData). map (type_of_id I) c.members-count.result.now ≡ set_of_id I c.args.set) c.interner.ensures c.members-count.ensures.members in
    let are = subst (λ (I : InternerData). map (type_of_id I) items ≡ set_of_id I c.args.set) (c.interner-in-loop-number.ensures ∙ ap (λ (q : ReplicaData). q.ids) kept.same) c.members.ensures.members in
    let long : k < length set = omega (arith, members_long ids c.members-count.result.now set first, c.loop-number-test.true) in
    let within : k < length items = omega (arith, members_long ids items set are, long) in
    let s : SlotData = record { arg = c.args.arg; point = c.args.point; ty = type_of_id ids t } in
    let f : FilledData = record { arg = c.args.arg; places = c.in_ok-places.places.items } in
    let candidates = as_before r now kept (λ I es. (place : ℕ) → Contains f.places place
    ↔ ((e : EntryData) × IsCandidate (take c.args.search.now.limit es) (fixed_of es c.args.search.now.fixed) (record { arg = c.args.arg; point = c.args.point; ty = type_of_id I t }) place e)) c.in_ok-places.ensures.candidates in
    record {
      kept = lists_then r now c.places_for.new.replica kept c.in_ok-places.ensures.kept;
      gains = subst (λ (ss : List SlotData). GainsFilled E fixed ss c.args.out.now.items c.push_reserved.new.self.items)
          (sym (next_of_types c.args.arg c.args.point k set (type_of_id ids t) long (member_is ids items set are k t within c.index-members-number.is)))
          (gains_then E fixed (slots_of c.args.arg c.args.point (take k set)) (s ∷ []) c.args.out.now.items c.loop-number.out.items c.push_reserved.new.self.items c.loop-number.invariant.gains
          (gains_one E fixed s c.loop-number.out.items c.push_reserved.new.self.items f (push_later c.loop-number.out.items c.reserve.new.self.items c.push_reserved.new.self.items f c.reserve.ensures.items c.push_reserved.ensures.items) (record { arg = refl; places = candidates; ascending = c.in_ok-places.ensures.ascending })));
    }

pub returns-then-is_empty-clause-lacks : goal.returns-then-is_empty-clause-lacks
returns-then-is_empty-clause-lacks c =
    let r = c.args.replica.now in
    let now = c.loop-number.replica in
    let kept = c.loop-number.invariant.kept in
    let ids = r.ids in
    let set = set_of_id ids c.args.set in
    let items = c.members.result.now in
    let t = c.index-members-number.result in
    let k = c.loop-number.number in
    let first = subst (λ (I : InternerData). map (type_of_id I) c.members-count.result.now ≡ set_of_id I c.args.set) c.interner.ensures c.members-count.ensures.members in
    let are = subst (λ (I : InternerData). map (type_of_id I) items ≡ set_of_id I c.args.set) (c.interner-in-loop-number.ensures ∙ ap (λ (q : ReplicaData). q.ids) kept.same) c.members.ensures.members in
    let long : k < length set = omega (arith, members_long ids c.members-count.result.now set first, c.loop-number-test.true) in
    let within : k < length items = omega (arith, members_long ids items set are, long) in
    let nothing : length c.in_ok-places.places.items ≡ 0 = eqb-true _ _ (sym c.is_empty.ensures ∙ c.if-is_empty.true) in
    record {
      ty = type_of_id ids t;
      among = subst (λ (a : TypeTree). Contains set a) (sym (member_is ids items set are k t within c.index-members-number.is)) (Contains-get_or set k (type_of_id ids t) long);
      none = as_before r now kept (λ I es. (place : ℕ) (e : EntryData)
          → IsCandidate (take c.args.search.now.limit es) (fixed_of es c.args.search.now.fixed) (record { arg = c.args.arg; point = c.args.point; ty = type_of_id I t }) place e → ⊥)
          (λ place e is. let there = (c.in_ok-places.ensures.candidates place).1 (e, is) in omega (arith, there.1, nothing));
    }

pub push_reserved-requires : goal.push_reserved-requires
push_reserved-requires c = (omega arith, c.in_ok-reserve.ensures.ok)
