use Rattle.std.proofs.Common.{◌≡◌, sym, ◌∙◌, ap, subst, ℕ, ◌<◌, List, length, get_or, slice_get, Option, Some, Contains, ◌⊎◌, inl, arith}
use Rattle.std.proofs.lemmas.Bool.{OnTrue_at}
use Rattle.hs_table.specs.Entries.{EntryData}
use Rattle.hs_types.proofs.Numbers.{env_within}
use Rattle.hs_replica.specs.Replica.{ReplicaData, KeepsLog}
use Rattle.hs_rules.specs.Slots.{FilledData}
use Rattle.hs_rules.specs.Joins.{PartialData, AreMasksOf, AreOwnMasks, MetForSlot, IsMadeOf, IsAmongJoined, only_place}
use Rattle.hs_rules.proofs.Lists.{read_other}
use Rattle.hs_rules.proofs.KeepLemmas.{keeps_none, keeps_then}
use Rattle.hs_rules.proofs.JoinLemmas.{placed_later}
use Rattle.hs_rules.proofs.ExtendLemmas.{CandidatesSoFar, masks_stay, own_stay, candidates_next, candidate_made}
use Rattle.hs_rules.proofs.extending.extend_run.Goals as goal

pub loop-number-init : goal.loop-number-init
loop-number-init c =
    let r = c.args.replica.now in
    let out = c.args.out.now in
    let same = sym c.own_masks.ensures.kept in
    record {
      kept = subst (λ (s : ReplicaData). KeepsLog r s) same (keeps_none r);
      so = subst (λ (s : ReplicaData). CandidatesSoFar r.ids s.ids r.log c.args.run.now c.args.next.now.slot.now c.args.next.now.at 0 out.list.items out.seen.keys out.met.masks.keys out.list.items) same (record {
        seen = c.requires.seen;
        met = c.requires.met;
        ascending = c.requires.ascending;
        before = λ x there y among k le lt. c.requires.before y among (get_or c.args.next.now.slot.now.places k 0) x there;
        keeps = λ x there. there;
        made = λ x there. inl there;
        all = λ k lt. absurd (omega (arith, lt));
      });
    }

pub extend_by-requires-clause-can : goal.extend_by-requires-clause-can
extend_by-requires-clause-can c = λ x there.
    let I = c.args.replica.now.ids in
    let J = c.loop-number.replica.ids in
    let g = c.loop-number.invariant.kept.grows in
    let known = c.requires.can x there in
    (env_within I J g x.env known.0, placed_later I J J c.args.replica.now.log c.loop-number.replica.log x c.args.next.now.slot.now c.args.next.now.at g known.0 c.loop-number.invariant.kept.log known.1)

pub extend_by-requires-clause-masks : goal.extend_by-requires-clause-masks
extend_by-requires-clause-masks c =
    let f = c.args.next.now.slot.now in
    let masks = c.args.next.now.masks.now in
    subst (λ (l : List EntryData). AreMasksOf c.loop-number.replica.ids l f masks) (sym c.loop-number.invariant.kept.log)
    (masks_stay c.args.replica.now.ids c.loop-number.replica.ids c.loop-number.invariant.kept.grows c.args.replica.now.log f masks c.requires.masks)

pub extend_by-requires-clause-own : goal.extend_by-requires-clause-own
extend_by-requires-clause-own c =
    let I = c.args.replica.now.ids in
    let run = c.args.run.now in
    let owns = c.as_slice.result.now in
    own_stay I c.loop-number.replica.ids c.loop-number.invariant.kept.grows run owns (λ x there. (c.requires.can x there).0) (subst (λ (os : List (Option ℕ)). AreOwnMasks I run os) (sym c.as_slice.ensures) c.in_ok-owns.ensures.masks)

pub own_masks-requires : goal.own_masks-requires
own_masks-requires c = λ x there. (c.requires.can x there).0

pub extend_by-requires-clause-met : goal.extend_by-requires-clause-met
extend_by-requires-clause-met c =
    let out = c.loop-number.out in
    subst (λ (l : List EntryData). MetForSlot c.loop-number.replica.ids l c.args.next.now.slot.now out.met.masks.keys out.list.items) (sym c.loop-number.invariant.kept.log) c.loop-number.invariant.so.met

pub returns-then-not-whole-clause-met : goal.returns-then-not-whole-clause-met
returns-then-not-whole-clause-met c =
    let new = c.extend_by.new.out in
    subst (λ (l : List EntryData). MetForSlot c.extend_by.new.replica.ids l c.args.next.now.slot.now new.met.masks.keys new.list.items) c.loop-number.invariant.kept.log c.in_ok-whole.ensures.met

pub returns-then-not-whole-clause-only : goal.returns-then-not-whole-clause-only
returns-then-not-whole-clause-only c =
    let f = c.args.next.now.slot.now in
    let old = c.loop-number.out in
    let lt : c.loop-number.number < length f.places = subst (λ (xs : List ℕ). c.loop-number.number < length xs) (ap (λ (y : FilledData). y.places) c.slot.view_is) (omega (arith, c.loop-number-test.true, c.len-number-end.ensures.value)) in
    candidate_made c.args.replica.now c.loop-number.replica c.extend_by.new.replica c.args.run.now f c.args.next.now.at c.loop-number.number c.loop-number.invariant.kept c.extend_by.ensures.kept c.requires.can lt
    c.args.out.now.list.items old.list.items c.extend_by.new.out.list.items old.seen.keys old.met.masks.keys c.loop-number.invariant.so c.in_ok-whole.ensures.only

pub loop-number-preserved : goal.loop-number-preserved
loop-number-preserved c =
    let I = c.args.replica.now.ids in
    let J = c.loop-number.replica.ids in
    let K = c.extend_by.new.replica.ids in
    let log = c.args.replica.now.log in
    let f = c.args.next.now.slot.now in
    let at = c.args.next.now.at in
    let k = c.loop-number.number in
    let run = c.args.run.now in
    let old = c.loop-number.out in
    let new = c.extend_by.new.out in
    let same = c.loop-number.invariant.kept.log in
    let place = get_or f.places k 0 in
    let lt : k < length f.places = subst (λ (xs : List ℕ). k < length xs) (ap (λ (y : FilledData). y.places) c.slot.view_is) (omega (arith, c.loop-number-test.true, c.len-number-end.ensures.value)) in
    record {
      kept = keeps_then c.args.replica.now c.loop-number.replica c.extend_by.new.replica c.loop-number.invariant.kept c.extend_by.ensures.kept;
      so = candidates_next I J K log run f at k c.loop-number.invariant.kept.grows c.extend_by.ensures.kept.grows c.requires.can c.requires.same c.requires.rises lt
          c.args.out.now.list.items old.list.items new.list.items old.seen.keys old.met.masks.keys new.seen.keys new.met.masks.keys c.loop-number.invariant.so
          c.in_ok-whole.ensures.seen (subst (λ (l : List EntryData). MetForSlot K l f new.met.masks.keys new.list.items) same c.in_ok-whole.ensures.met) c.in_ok-whole.ensures.ascending c.in_ok-whole.ensures.keeps
          (subst (λ (l : List EntryData). (x : PartialData) → Contains new.list.items x → Contains old.list.items x ⊎ IsMadeOf J K l run (only_place f.arg place) at x) same c.in_ok-whole.ensures.only)
          (subst (λ (l : List EntryData). (from : PartialData) → Contains run from → (e : EntryData) → slice_get l place ≡ Some e → IsAmongJoined J K from at place e new.list.items) same (OnTrue_at c.if-not-whole.false c.in_ok-whole.ensures.all));
    }

pub returns-clause-all : goal.returns-clause-all
returns-clause-all c = λ from there place e fills.
    let f = c.args.next.now.slot.now in
    let a = fills.among in
    let is = read_other f.places a.0 place 0 a.1 a.2 in
    let many : length c.slot.inside.places.items ≡ length f.places = ap (λ (y : FilledData). length y.places) c.slot.view_is in
    subst (λ (p : ℕ). IsAmongJoined c.args.replica.now.ids c.loop-number.replica.ids from c.args.next.now.at p e c.loop-number.out.list.items) is
    (c.loop-number.invariant.so.all a.0 (omega (arith, a.1, many, c.loop-number-test.false, c.len-number-end.ensures.value)) from there e (ap (λ (p : ℕ). slice_get c.args.replica.now.log p) is ∙ fills.at))
