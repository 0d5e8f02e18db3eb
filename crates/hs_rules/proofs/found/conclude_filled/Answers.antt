use Rattle.std.proofs.Common.{sym, subst, List, take, map, arith, inl, inr}
use Rattle.std.proofs.lemmas.Bool.{OnTrue_at}
use Rattle.hs_table.specs.Entries.{Env, EntryData}
use Rattle.hs_types.specs.Interned.{set_of_id}
use Rattle.hs_rules.specs.Slots.{slots}
use Rattle.hs_rules.specs.Filling.{fixed_of, AreFilled}
use Rattle.hs_rules.specs.Found.{seek}
use Rattle.hs_rules.proofs.KeepLemmas.{keeps_none, keeps_then}
use Rattle.hs_rules.proofs.FoundLemmas.{lowers_none, lowers_then, sets_stay, known_later, envs_later, leads_later, conclusion_earlier, conclusion_later, known_one}
use Rattle.hs_rules.proofs.found.conclude_filled.Goals.{then-whole-via-then-whole, then-whole-via-else-whole+then-len-search}
use Rattle.hs_rules.proofs.found.conclude_filled.Goals as goal

pub loop-init : goal.loop-init
loop-init c = record {
  kept = keeps_none c.args.replica.now;
  rows = c.requires.rows;
  lowers = lowers_none c.args.found.now.list.items;
  concluded = λ d there. inl there;
}

pub conclude_some-requires-clause-head : goal.conclude_some-requires-clause-head
conclude_some-requires-clause-head c = known_later c.args.replica.now.ids c.loop.replica.ids c.args.search.now.args.now c.args.head.now c.loop.invariant.kept.grows c.requires.head

pub conclude_some-requires-clause-envs : goal.conclude_some-requires-clause-envs
conclude_some-requires-clause-envs c =
    envs_later c.args.replica.now.ids c.loop.replica.ids c.args.replica.now.log c.loop.replica.log c.args.search.now.limit c.args.search.now.args.now c.args.head.now c.loop.invariant.kept.grows c.loop.invariant.kept.log
    c.requires.head.own c.requires.envs

pub conclude_some-requires-clause-filled : goal.conclude_some-requires-clause-filled
conclude_some-requires-clause-filled c =
    let I = c.args.replica.now.ids in
    let s = seek c.args.search.now in
    let h = c.args.head.now in
    let fs = c.args.slots.now in
    let later = c.loop.replica.log in
    subst (λ (sets : Env). AreFilled (take s.limit later) (fixed_of later s.fixed) (slots 0 s.args sets) fs) (sym (sets_stay I c.loop.replica.ids h.sets c.loop.invariant.kept.grows c.requires.head.sets))
    (subst (λ (l : List EntryData). AreFilled (take s.limit l) (fixed_of l s.fixed) (slots 0 s.args (map (set_of_id I) h.sets)) fs) (sym c.loop.invariant.kept.log) c.requires.filled)

pub returns-then-whole-clause-lowers : goal.returns-then-whole-clause-lowers
returns-then-whole-clause-lowers c = lowers_then c.args.found.now.list.items c.loop.found.list.items c.conclude_some.new.found.list.items c.loop.invariant.lowers c.in_ok-whole.ensures.lowers

pub returns-then-whole-clause-only : goal.returns-then-whole-clause-only
returns-then-whole-clause-only c = λ d there.
    let I = c.args.replica.now.ids in
    let J = c.loop.replica.ids in
    let K = c.conclude_some.new.replica.ids in
    let log = c.args.replica.now.log in
    let s = seek c.args.search.now in
    let h = c.args.head.now in
    elim (c.in_ok-whole.ensures.only d there) [
      | inl was ↦ elim (c.loop.invariant.concluded d was) [
        | inl first ↦ inl first
        | inr (x, m, k) ↦ inr (x, m, conclusion_later I J K log s x c.in_ok-whole.ensures.kept.grows d k)
      ]
      | inr (x, m, k) ↦ inr (x, m, conclusion_earlier I J K log c.loop.replica.log s x c.loop.invariant.kept.grows c.loop.invariant.kept.log (known_one I s.args h c.args.alike.now c.requires.head c.requires.known x m) d k)
    ]

pub returns-then-whole-clause-all : goal.returns-then-whole-clause-all
returns-then-whole-clause-all c = λ few x m args env leads.
    let I = c.args.replica.now.ids in
    let J = c.loop.replica.ids in
    let s = seek c.args.search.now in
    let h = c.args.head.now in
    elim c.then-whole.branch [
      | then-whole-via-then-whole w ↦
          OnTrue_at w.if-whole.true c.in_ok-whole.ensures.all few x m args env
          (leads_later I J c.args.replica.now.log c.loop.replica.log s x c.loop.invariant.kept.grows c.loop.invariant.kept.log (known_one I s.args h c.args.alike.now c.requires.head c.requires.known x m) args env leads)
      | then-whole-via-else-whole+then-len-search w ↦ absurd (omega (arith, few, w.if-len-search.true, w.len.ensures))
    ]

pub loop-preserved : goal.loop-preserved
loop-preserved c =
    let I = c.args.replica.now.ids in
    let J = c.loop.replica.ids in
    let K = c.conclude_some.new.replica.ids in
    let log = c.args.replica.now.log in
    let s = seek c.args.search.now in
    let h = c.args.head.now in
    record {
      kept = keeps_then c.args.replica.now c.loop.replica c.conclude_some.new.replica c.loop.invariant.kept c.in_ok-whole.ensures.kept;
      rows = c.in_ok-whole.ensures.rows;
      lowers = lowers_then c.args.found.now.list.items c.loop.found.list.items c.conclude_some.new.found.list.items c.loop.invariant.lowers c.in_ok-whole.ensures.lowers;
      concluded = λ d there. elim (c.in_ok-whole.ensures.only d there) [
        | inl was ↦ elim (c.loop.invariant.concluded d was) [
          | inl first ↦ inl first
          | inr (x, m, k) ↦ inr (x, m, conclusion_later I J K log s x c.in_ok-whole.ensures.kept.grows d k)
        ]
        | inr (x, m, k) ↦ inr (x, m, conclusion_earlier I J K log c.loop.replica.log s x c.loop.invariant.kept.grows c.loop.invariant.kept.log (known_one I s.args h c.args.alike.now c.requires.head c.requires.known x m) d k)
      ];
    }

pub returns-in_err-whole-clause-kept : goal.returns-in_err-whole-clause-kept
returns-in_err-whole-clause-kept c = keeps_then c.args.replica.now c.loop.replica c.conclude_some.new.replica c.loop.invariant.kept c.conclude_some.ensures.kept
