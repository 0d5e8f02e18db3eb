use Rattle.std.proofs.Common.{sym, ◌∙◌, ap, subst, List, get_or, slice_get, Contains, inl, inr, arith}
use Rattle.std.proofs.lemmas.Bool.{OnTrue_at}
use Rattle.std.proofs.lemmas.List.{take_all}
use Rattle.hs_table.specs.Entries.{EntryData}
use Rattle.hs_types.proofs.Numbers.{env_within}
use Rattle.hs_rules.specs.Joins.{PartialData, AreMasksOf, MetForSlot}
use Rattle.hs_rules.proofs.Lists.{first_there}
use Rattle.hs_rules.proofs.KeepLemmas.{keeps_then}
use Rattle.hs_rules.proofs.JoinLemmas.{placed_later, before_rest}
use Rattle.hs_rules.proofs.ExtendLemmas.{masks_stay, run_made, run_among}
use Rattle.hs_rules.proofs.RunLemmas.{items_of, in_run, run_there, run_ascends, first_at, as_first, run_same, up_to_end}
use Rattle.hs_rules.proofs.extending.extend_all.Goals as goal

pub extend_run-requires-clause-can : goal.extend_run-requires-clause-can
extend_run-requires-clause-can c = λ x there.
    let I = c.args.replica.now.ids in
    let J = c.loop-start.replica.ids in
    let g = c.loop-start.invariant.kept.grows in
    let known = c.requires.can x (run_there c.args.partials.now c.loop-start.start c.run_end-end.result x there) in
    (env_within I J g x.env known.0, placed_later I J J c.args.replica.now.log c.loop-start.replica.log x c.args.next.now.slot.now c.args.next.now.at g known.0 c.loop-start.invariant.kept.log known.1)

pub extend_run-requires-clause-masks : goal.extend_run-requires-clause-masks
extend_run-requires-clause-masks c =
    let f = c.args.next.now.slot.now in
    let masks = c.args.next.now.masks.now in
    subst (λ (l : List EntryData). AreMasksOf c.loop-start.replica.ids l f masks) (sym c.loop-start.invariant.kept.log)
    (masks_stay c.args.replica.now.ids c.loop-start.replica.ids c.loop-start.invariant.kept.grows c.args.replica.now.log f masks c.requires.masks)

pub extend_run-requires-clause-ascends : goal.extend_run-requires-clause-ascends
extend_run-requires-clause-ascends c = run_ascends c.args.partials.now c.loop-start.start c.run_end-end.result c.run_end-end.ensures.within c.requires.ascending

pub extend_run-requires-clause-long : goal.extend_run-requires-clause-long
extend_run-requires-clause-long c = λ x y cx cy.
    c.requires.long x y (run_there c.args.partials.now c.loop-start.start c.run_end-end.result x cx) (run_there c.args.partials.now c.loop-start.start c.run_end-end.result y cy)

pub extend_run-requires-clause-same : goal.extend_run-requires-clause-same
extend_run-requires-clause-same c = λ x y cx cy. run_same c.args.partials.now c.loop-start.start c.args.next.now.at c.run_end-end.result c.run_end-end.ensures x x y cx cy

pub extend_run-requires-clause-met : goal.extend_run-requires-clause-met
extend_run-requires-clause-met c =
    let out = c.loop-start.out in
    subst (λ (l : List EntryData). MetForSlot c.loop-start.replica.ids l c.args.next.now.slot.now out.met.masks.keys out.list.items) (sym c.loop-start.invariant.kept.log) c.loop-start.invariant.met

pub extend_run-requires-clause-before : goal.extend_run-requires-clause-before
extend_run-requires-clause-before c = λ y cy place x there.
    let r = in_run c.args.partials.now c.loop-start.start c.run_end-end.result y cy in
    c.loop-start.invariant.before x there r.place y r.from r.at place

pub returns-then-not-whole-clause-only : goal.returns-then-not-whole-clause-only
returns-then-not-whole-clause-only c =
    run_made c.args.replica.now c.loop-start.replica c.extend_run.new.replica c.args.partials.now (items_of c.args.partials.now c.loop-start.start c.run_end-end.result) c.args.next.now.slot.now c.args.next.now.at c.loop-start.invariant.kept c.extend_run.ensures.kept c.requires.can
    (λ x there. run_there c.args.partials.now c.loop-start.start c.run_end-end.result x there) c.loop-start.out.list.items c.extend_run.new.out.list.items c.loop-start.invariant.made c.in_ok-whole.ensures.only

pub loop-start-preserved : goal.loop-start-preserved
loop-start-preserved c =
    let K = c.extend_run.new.replica.ids in
    let log = c.args.replica.now.log in
    let f = c.args.next.now.slot.now in
    let at = c.args.next.now.at in
    let partials = c.args.partials.now in
    let start = c.loop-start.start in
    let end = c.run_end-end.result in
    let run = c.run_end-end.ensures in
    let items = items_of partials start end in
    let old = c.loop-start.out in
    let new = c.extend_run.new.out in
    let same = c.loop-start.invariant.kept.log in
    let there = λ (x : PartialData) (inside : Contains items x). run_there partials start end x inside in
    record {
      kept = keeps_then c.args.replica.now c.loop-start.replica c.extend_run.new.replica c.loop-start.invariant.kept c.extend_run.ensures.kept;
      within = run.within;
      seen = c.in_ok-whole.ensures.seen;
      met = subst (λ (l : List EntryData). MetForSlot K l f new.met.masks.keys new.list.items) same c.in_ok-whole.ensures.met;
      ascending = c.in_ok-whole.ensures.ascending;
      before = λ x inside. before_rest partials start at end run c.requires.ascending c.requires.long c.loop-start.replica.ids K c.loop-start.replica.log old.list.items new.list.items items f (get_or partials start x) (first_at partials start at end run x)
          (λ y cy. (there y cy, as_first partials start at end run x y cy)) c.loop-start.invariant.before c.in_ok-whole.ensures.only x inside;
      made = run_made c.args.replica.now c.loop-start.replica c.extend_run.new.replica partials items f at c.loop-start.invariant.kept c.extend_run.ensures.kept c.requires.can there old.list.items new.list.items c.loop-start.invariant.made c.in_ok-whole.ensures.only;
      all = λ from inside place e fills. elim (up_to_end partials start end from (omega (arith, run.more)) inside) [
        | inl was ↦ run_among c.args.replica.now c.loop-start.replica c.extend_run.new.replica partials f at c.loop-start.invariant.kept c.extend_run.ensures.kept c.requires.can from (first_there start partials from was) place e old.list.items new.list.items
            c.in_ok-whole.ensures.keeps (inl (c.loop-start.invariant.all from was place e fills))
        | inr in_it ↦ run_among c.args.replica.now c.loop-start.replica c.extend_run.new.replica partials f at c.loop-start.invariant.kept c.extend_run.ensures.kept c.requires.can from (there from in_it) place e old.list.items new.list.items
            c.in_ok-whole.ensures.keeps (inr (OnTrue_at c.if-not-whole.false c.in_ok-whole.ensures.all from in_it place e (record { among = fills.among; at = ap (λ l. slice_get l place) same ∙ fills.at })))
      ];
    }

pub returns-clause-all : goal.returns-clause-all
returns-clause-all c = λ from there place e fills.
    c.loop-start.invariant.all from (subst (λ (xs : List PartialData). Contains xs from) (sym (take_all c.loop-start.start c.args.partials.now c.loop-start-test.false)) there) place e fills
