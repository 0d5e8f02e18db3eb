use Rattle.std.proofs.Common.{sym, subst, ◌+◌, ◌-◌, ◌≤◌, List, ◌∷◌, length, take, drop, arith, inl, inr, Contains}
use Rattle.std.proofs.lemmas.List.{take_all}
use Rattle.hs_rules.specs.Found.{HeadData, seek}
use Rattle.hs_scheme.proofs.Lists.{none_in, later}
use Rattle.hs_rules.proofs.KeepLemmas.{keeps_none, keeps_then}
use Rattle.hs_rules.proofs.FoundLemmas.{lowers_none, lowers_then, known_later, envs_later, leads_later, conclusion_earlier, conclusion_later, found_later, run_cases, run_among}
use Rattle.hs_rules.proofs.found.conclude_grouped.Goals as goal

pub conclude-requires-clause-head : goal.conclude-requires-clause-head
conclude-requires-clause-head c =
    known_later c.args.replica.now.ids c.loop-done.replica.ids c.args.search.now.args.now c.index-heads-done.result c.loop-done.invariant.kept.grows
    (c.requires.heads c.index-heads-done.result (c.loop-done.done, c.loop-done-test.true, sym c.index-heads-done.is))

pub conclude-requires-clause-envs : goal.conclude-requires-clause-envs
conclude-requires-clause-envs c =
    let head = c.index-heads-done.result in
    let among : Contains c.args.heads.now head = (c.loop-done.done, c.loop-done-test.true, sym c.index-heads-done.is) in
    envs_later c.args.replica.now.ids c.loop-done.replica.ids c.args.replica.now.log c.loop-done.replica.log c.args.search.now.limit c.args.search.now.args.now head c.loop-done.invariant.kept.grows
    c.loop-done.invariant.kept.log (c.requires.heads head among).own (c.requires.envs head among)

pub conclude-requires-clause-known : goal.conclude-requires-clause-known
conclude-requires-clause-known c = λ h there.
    let heads = c.args.heads.now in
    let head = c.index-heads-done.result in
    let at : Contains heads head = (c.loop-done.done, c.loop-done-test.true, sym c.index-heads-done.is) in
    known_later c.args.replica.now.ids c.loop-done.replica.ids c.args.search.now.args.now h c.loop-done.invariant.kept.grows
    (c.requires.heads h (run_among heads (c.loop-done.done + 1) c.count_alike-count.result head h at (later head h (take c.count_alike-count.result (take (length heads - (c.loop-done.done + 1)) (drop (c.loop-done.done + 1) heads))) there)))

pub loop-done-init : goal.loop-done-init
loop-done-init c = record {
  kept = keeps_none c.args.replica.now;
  rows = c.requires.rows;
  lowers = lowers_none c.args.found.now.list.items;
  concluded = λ d there. inl there;
  all = λ x there. absurd (none_in x there);
}

pub loop-done-preserved : goal.loop-done-preserved
loop-done-preserved c =
    let I = c.args.replica.now.ids in
    let J = c.loop-done.replica.ids in
    let K = c.conclude.new.replica.ids in
    let log = c.args.replica.now.log in
    let after = c.loop-done.replica.log in
    let s = seek c.args.search.now in
    let heads = c.args.heads.now in
    let done = c.loop-done.done in
    let count = c.count_alike-count.result in
    let head = c.index-heads-done.result in
    let g = c.loop-done.invariant.kept.grows in
    let h = c.in_ok-conclude.ensures.kept.grows in
    let same = c.loop-done.invariant.kept.log in
    let at : Contains heads head = (done, c.loop-done-test.true, sym c.index-heads-done.is) in
    let run = head ∷ take count (take (length heads - (done + 1)) (drop (done + 1) heads)) in
    let among = λ (x : HeadData) (there : Contains run x). run_among heads (done + 1) count head x at there in
    let few : length c.conclude.new.found.list.items ≤ c.args.search.now.most = omega (arith, c.if-len-search.false, c.len.ensures) in
    record {
      kept = keeps_then c.args.replica.now c.loop-done.replica c.conclude.new.replica c.loop-done.invariant.kept c.in_ok-conclude.ensures.kept;
      rows = c.in_ok-conclude.ensures.rows;
      lowers = lowers_then c.args.found.now.list.items c.loop-done.found.list.items c.conclude.new.found.list.items c.loop-done.invariant.lowers c.in_ok-conclude.ensures.lowers;
      concluded = λ d there. elim (c.in_ok-conclude.ensures.only d there) [
        | inl was ↦ elim (c.loop-done.invariant.concluded d was) [
          | inl first ↦ inl first
          | inr (x, m, k) ↦ inr (x, m, conclusion_later I J K log s x h d k)
        ]
        | inr (x, m, k) ↦ inr (x, among x m, conclusion_earlier I J K log after s x g same (c.requires.heads x (among x m)) d k)
      ];
      all = λ x there args env leads. elim (run_cases heads done count head x c.loop-done-test.true c.index-heads-done.is there) [
        | inl was ↦ found_later J K s x args env c.loop-done.found.list.items c.conclude.new.found.list.items h c.in_ok-conclude.ensures.lowers (c.loop-done.invariant.all x was args env leads)
        | inr m ↦ c.in_ok-conclude.ensures.all few x m args env (leads_later I J log after s x g same (c.requires.heads x (among x m)) args env leads)
      ];
    }

pub returns-clause-all : goal.returns-clause-all
returns-clause-all c = λ few x there.
    c.loop-done.invariant.all x (subst (λ (xs : List HeadData). Contains xs x) (sym (take_all c.loop-done.done c.args.heads.now c.loop-done-test.false)) there)

pub returns-then-len-search-clause-rows : goal.returns-then-len-search-clause-rows
returns-then-len-search-clause-rows c = c.in_ok-conclude.ensures.rows

pub returns-then-len-search-clause-lowers : goal.returns-then-len-search-clause-lowers
returns-then-len-search-clause-lowers c = lowers_then c.args.found.now.list.items c.loop-done.found.list.items c.conclude.new.found.list.items c.loop-done.invariant.lowers c.in_ok-conclude.ensures.lowers

pub returns-then-len-search-clause-only : goal.returns-then-len-search-clause-only
returns-then-len-search-clause-only c = λ d there.
    let I = c.args.replica.now.ids in
    let J = c.loop-done.replica.ids in
    let K = c.conclude.new.replica.ids in
    let log = c.args.replica.now.log in
    let s = seek c.args.search.now in
    let heads = c.args.heads.now in
    let head = c.index-heads-done.result in
    let at : Contains heads head = (c.loop-done.done, c.loop-done-test.true, sym c.index-heads-done.is) in
    elim (c.in_ok-conclude.ensures.only d there) [
      | inl was ↦ elim (c.loop-done.invariant.concluded d was) [
        | inl first ↦ inl first
        | inr (x, m, k) ↦ inr (x, m, conclusion_later I J K log s x c.in_ok-conclude.ensures.kept.grows d k)
      ]
      | inr (x, m, k) ↦
          let among = run_among heads (c.loop-done.done + 1) c.count_alike-count.result head x at m in
          inr (x, among, conclusion_earlier I J K log c.loop-done.replica.log s x c.loop-done.invariant.kept.grows c.loop-done.invariant.kept.log (c.requires.heads x among) d k)
    ]

pub returns-then-len-search-clause-all : goal.returns-then-len-search-clause-all
returns-then-len-search-clause-all c = λ few. absurd (omega (arith, few, c.if-len-search.true, c.len.ensures))

pub returns-then-len-search-clause-kept : goal.returns-then-len-search-clause-kept
returns-then-len-search-clause-kept c = keeps_then c.args.replica.now c.loop-done.replica c.conclude.new.replica c.loop-done.invariant.kept c.in_ok-conclude.ensures.kept
