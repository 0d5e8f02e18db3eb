use Rattle.std.proofs.Common.{◌≡◌, sym, ◌∙◌, ap, subst, ℕ, ◌<◌, List, [], ◌∷◌, length, take, slice_get, slice_index_or, Contains}
use Rattle.std.proofs.lemmas.List.{take_all}
use Rattle.std.proofs.lemmas.Option.{same_Some}
use Rattle.hs_scheme.proofs.Lists.{here}
use Rattle.hs_table.specs.Entries.{EntryData}
use Rattle.hs_table_laws.proofs.Places.{within_from}
use Rattle.hs_table_laws.proofs.Members.{taken_next}
use Rattle.hs_types.specs.Interned.{env_of_id, entry_of}
use Rattle.hs_rules.specs.Slots.{FilledData}
use Rattle.hs_rules.specs.Joins.{IsWithSole}
use Rattle.hs_rules.proofs.KeepLemmas.{keeps_none, keeps_then}
use Rattle.hs_rules.proofs.JoinLemmas.{single}
use Rattle.hs_rules.proofs.SoleLemmas.{sole_none, sole_other, sole_more}
use Rattle.hs_rules.proofs.joins.own_with_sole.Goals as goal

pub loop-slot-init : goal.loop-slot-init
loop-slot-init c =
    let own = env_of_id c.args.replica.now.ids c.args.own in
    record {
      kept = keeps_none c.args.replica.now;
      known = c.requires.own;
      asks = sole_none c.args.replica.now.log (length own) own c.requires.is_env;
    }

pub loop-slot-preserved-then-places-ne1 : goal.loop-slot-preserved-then-places-ne1
loop-slot-preserved-then-places-ne1 c =
    let own = env_of_id c.args.replica.now.ids c.args.own in
    let env = env_of_id c.loop-slot.replica.ids c.loop-slot.env in
    let log = c.args.replica.now.log in
    let slots = c.args.slots.now in
    let k = c.loop-slot.slot-index in
    let f = c.slot-item.result in
    let places_is = c.as_slice-places.ensures ∙ ap (λ (x : FilledData). x.places) c.slot.view_is in
    record {
      kept = c.loop-slot.invariant.kept;
      known = c.loop-slot.invariant.known;
      asks = subst (λ (fs : List FilledData). IsWithSole log (length own) own fs env) (sym (taken_next slots k f c.loop-slot-test.true c.slot-item.is))
          (sole_other log (length own) own (take k slots) f env c.loop-slot.invariant.asks (λ place alone. c.if-places-ne1.true (ap (λ (ps : List ℕ). length ps) (places_is ∙ alone))));
    }

pub row-candidate-requires : goal.row-candidate-requires
row-candidate-requires c =
    let log = c.args.replica.now.log in
    let items = c.as_slice-places.result.now in
    let place = slice_index_or items 0 0 in
    let f = c.slot-item.result in
    let one : f.places ≡ place ∷ [] = sym (c.as_slice-places.ensures ∙ ap (λ (x : FilledData). x.places) c.slot.view_is) ∙ single items c.if-places-ne1.false in
    let placed = c.requires.placed f (c.loop-slot.slot-index, c.loop-slot-test.true, sym c.slot-item.is) place (subst (λ (ps : List ℕ). Contains ps place) (sym one) (here place [])) in
    subst (λ (l : List EntryData). place < length l) (sym c.loop-slot.invariant.kept.log) (within_from log place placed.entry placed.at)

pub union_envs-requires-clause-a : goal.union_envs-requires-clause-a
union_envs-requires-clause-a c = c.loop-slot.invariant.known

pub union_envs-requires-clause-long : goal.union_envs-requires-clause-long
union_envs-requires-clause-long c =
    let J = c.loop-slot.replica.ids in
    let items = c.as_slice-places.result.now in
    let place = slice_index_or items 0 0 in
    let f = c.slot-item.result in
    let one : f.places ≡ place ∷ [] = sym (c.as_slice-places.ensures ∙ ap (λ (x : FilledData). x.places) c.slot.view_is) ∙ single items c.if-places-ne1.false in
    let placed = c.requires.placed f (c.loop-slot.slot-index, c.loop-slot-test.true, sym c.slot-item.is) place (subst (λ (ps : List ℕ). Contains ps place) (sym one) (here place [])) in
    let at = ap (λ (l : List EntryData). slice_get l place) (sym c.loop-slot.invariant.kept.log) ∙ c.row-candidate.ensures.entry in
    let same = same_Some placed.entry (entry_of J c.row-candidate.result) (sym placed.at ∙ at) in
    c.loop-slot.invariant.asks.is_env.long ∙ (sym placed.env.long ∙ ap (λ (e : EntryData). length e.env) same)

pub loop-slot-preserved : goal.loop-slot-preserved
loop-slot-preserved c =
    let J = c.loop-slot.replica.ids in
    let K = c.union_envs.new.self.ids in
    let own = env_of_id c.args.replica.now.ids c.args.own in
    let log = c.args.replica.now.log in
    let slots = c.args.slots.now in
    let k = c.loop-slot.slot-index in
    let items = c.as_slice-places.result.now in
    let place = slice_index_or items 0 0 in
    let f = c.slot-item.result in
    let union = env_of_id K c.in_ok-env.env in
    let one : f.places ≡ place ∷ [] = sym (c.as_slice-places.ensures ∙ ap (λ (x : FilledData). x.places) c.slot.view_is) ∙ single items c.if-places-ne1.false in
    let at = ap (λ (l : List EntryData). slice_get l place) (sym c.loop-slot.invariant.kept.log) ∙ c.row-candidate.ensures.entry in
    record {
      kept = keeps_then c.args.replica.now c.loop-slot.replica c.union_envs.new.self c.loop-slot.invariant.kept c.in_ok-env.ensures.kept;
      known = c.in_ok-env.ensures.ok.0;
      asks = subst (λ (fs : List FilledData). IsWithSole log (length own) own fs union) (sym (taken_next slots k f c.loop-slot-test.true c.slot-item.is))
          (sole_more log (length own) own (take k slots) f (env_of_id J c.loop-slot.env) union place (entry_of J c.row-candidate.result) one at c.loop-slot.invariant.asks c.in_ok-env.ensures.ok.1);
    }

pub returns-clause-asks : goal.returns-clause-asks
returns-clause-asks c =
    let own = env_of_id c.args.replica.now.ids c.args.own in
    subst (λ (fs : List FilledData). IsWithSole c.args.replica.now.log (length own) own fs (env_of_id c.loop-slot.replica.ids c.loop-slot.env)) (take_all c.loop-slot.slot-index c.args.slots.now c.loop-slot-test.false) c.loop-slot.invariant.asks
