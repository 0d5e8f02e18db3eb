use Rattle.std.proofs.Common.{sym, ◌∙◌, ap, subst, ℕ, ◌<◌, ◌≤◌, List, ◌∷◌, ◌⊎◌, length, All, map, take, inl, OnOk, Contains}
use Rattle.std.proofs.lemmas.Bool.{OnTrue_at, OnFalse_at}
use Rattle.hs_table.specs.Entries.{Env}
use Rattle.hs_types.specs.Interned.{set_of_id, env_of_id}
use Rattle.hs_rules.specs.Conclusions.{DeducedData}
use Rattle.hs_rules.specs.Slots.{slots, FilledData}
use Rattle.hs_rules.specs.Filling.{fixed_of, AreFilled}
use Rattle.hs_rules.specs.Shut.{AreShut}
use Rattle.hs_rules.specs.Found.{HeadData, HasKnownNumbers, HaveEnvs, seek, slots_of_head, HeadLeadsTo, IsDeducedBy, HasEnvFound}
use Rattle.hs_rules.proofs.KeepLemmas.{keeps_then, as_before, as_then, lists_keep}
use Rattle.hs_rules.proofs.PartLemmas.{can_search_later}
use Rattle.hs_rules.proofs.FoundLemmas.{lowers_none, alike_one}
use Rattle.hs_rules.proofs.found.conclude.Goals as goal

pub fill-requires-clause-search : goal.fill-requires-clause-search
fill-requires-clause-search c = c.requires.search

pub fill-requires-clause-sets : goal.fill-requires-clause-sets
fill-requires-clause-sets c = subst (λ (xs : List ℕ). All (λ s. s < length c.args.replica.now.ids.sets) xs) (sym (c.as_slice-sets.ensures ∙ ap (λ (x : HeadData). x.sets) c.head.view_is)) c.requires.head.sets

pub fill-requires-clause-long : goal.fill-requires-clause-long
fill-requires-clause-long c = ap (λ (xs : List ℕ). length xs) (c.as_slice-sets.ensures ∙ ap (λ (x : HeadData). x.sets) c.head.view_is) ∙ c.requires.head.long

pub fill-requires-clause-none : goal.fill-requires-clause-none
fill-requires-clause-none c = c.clear.ensures.items

pub returns-in_err-complete-clause-kept : goal.returns-in_err-complete-clause-kept
returns-in_err-complete-clause-kept c = lists_keep c.args.replica.now c.fill.new.replica c.fill.ensures.kept

pub returns-then-not-complete-clause-rows : goal.returns-then-not-complete-clause-rows
returns-then-not-complete-clause-rows c = c.requires.rows

pub returns-then-not-complete-clause-lowers : goal.returns-then-not-complete-clause-lowers
returns-then-not-complete-clause-lowers c = lowers_none c.args.found.now.list.items

pub returns-then-not-complete-clause-only : goal.returns-then-not-complete-clause-only
returns-then-not-complete-clause-only c = λ d there. inl there

pub returns-then-not-complete-clause-all : goal.returns-then-not-complete-clause-all
returns-then-not-complete-clause-all c = λ few g there args env leads.
    let ids = c.args.replica.now.ids in
    let log = c.args.replica.now.log in
    let s = seek c.args.search.now in
    let alike = alike_one c.args.head.now c.args.alike.now c.requires.alike g there in
    let none = OnFalse_at c.if-not-complete.true c.in_ok-complete.ensures.shut in
    let shut = subst (λ (xs : List ℕ). AreShut (take s.limit log) (fixed_of log s.fixed) (slots 0 s.args (map (set_of_id ids) xs))) (c.as_slice-sets.ensures ∙ (ap (λ (x : HeadData). x.sets) c.head.view_is ∙ alike.sets)) none in
    absurd (shut args leads.chosen leads.picked)

pub returns-then-not-complete-clause-kept : goal.returns-then-not-complete-clause-kept
returns-then-not-complete-clause-kept c = lists_keep c.args.replica.now c.fill.new.replica c.in_ok-complete.ensures.kept

pub conclude_filled-requires-clause-search : goal.conclude_filled-requires-clause-search
conclude_filled-requires-clause-search c = can_search_later c.args.replica.now c.fill.new.replica c.args.search.now.args.now c.args.search.now.limit c.args.search.now.fixed (lists_keep c.args.replica.now c.fill.new.replica c.in_ok-complete.ensures.kept) c.requires.search

pub conclude_filled-requires-clause-head : goal.conclude_filled-requires-clause-head
conclude_filled-requires-clause-head c = as_then c.args.replica.now c.fill.new.replica c.in_ok-complete.ensures.kept (λ I es. HasKnownNumbers I c.args.search.now.args.now c.args.head.now) c.requires.head

pub conclude_filled-requires-clause-known : goal.conclude_filled-requires-clause-known
conclude_filled-requires-clause-known c =
    as_then c.args.replica.now c.fill.new.replica c.in_ok-complete.ensures.kept (λ I es. (h : HeadData) → Contains c.args.alike.now h → HasKnownNumbers I c.args.search.now.args.now h) c.requires.known

pub conclude_filled-requires-clause-envs : goal.conclude_filled-requires-clause-envs
conclude_filled-requires-clause-envs c =
    let s = seek c.args.search.now in
    as_then c.args.replica.now c.fill.new.replica c.in_ok-complete.ensures.kept (λ I es. HaveEnvs (take s.limit es) s.args (length (env_of_id I c.args.head.now.own))) c.requires.envs

pub conclude_filled-requires-clause-filled : goal.conclude_filled-requires-clause-filled
conclude_filled-requires-clause-filled c =
    let ids = c.args.replica.now.ids in
    let log = c.args.replica.now.log in
    let s = seek c.args.search.now in
    let sets_is = c.as_slice-sets.ensures ∙ ap (λ (x : HeadData). x.sets) c.head.view_is in
    let are = OnTrue_at c.if-not-complete.false c.in_ok-complete.ensures.filled in
    let filled = subst (λ (xs : List ℕ). AreFilled (take s.limit log) (fixed_of log s.fixed) (slots 0 s.args (map (set_of_id ids) xs)) c.fill.new.out.items) sets_is are in
    as_then c.args.replica.now c.fill.new.replica c.in_ok-complete.ensures.kept (λ I es. AreFilled (take s.limit es) (fixed_of es s.fixed) (slots_of_head I s.args c.args.head.now) c.as_slice-filled.result.now)
    (subst (λ (fs : List FilledData). AreFilled (take s.limit log) (fixed_of log s.fixed) (slots_of_head ids s.args c.args.head.now) fs) (sym c.as_slice-filled.ensures) filled)

pub returns-clause-only : goal.returns-clause-only
returns-clause-only c =
    let K = c.conclude_filled.new.replica.ids in
    let s = seek c.args.search.now in
    let new = c.conclude_filled.new.found.list.items in
    as_before c.args.replica.now c.fill.new.replica c.in_ok-complete.ensures.kept
    (λ I es. OnOk c.conclude_filled.result ((d : DeducedData) → Contains new d → Contains c.args.found.now.list.items d ⊎ ((h : HeadData) × Contains (c.args.head.now ∷ c.args.alike.now) h × IsDeducedBy I K es s h d))) c.conclude_filled.ensures.only

pub returns-clause-all : goal.returns-clause-all
returns-clause-all c =
    let K = c.conclude_filled.new.replica.ids in
    let s = seek c.args.search.now in
    let new = c.conclude_filled.new.found.list.items in
    as_before c.args.replica.now c.fill.new.replica c.in_ok-complete.ensures.kept
    (λ I es. OnOk c.conclude_filled.result (length new ≤ c.args.search.now.most → (h : HeadData) → Contains (c.args.head.now ∷ c.args.alike.now) h → (args : List (ℕ × ℕ)) (env : Env) → HeadLeadsTo I es s h args env → HasEnvFound K s h args env new)) c.conclude_filled.ensures.all

pub returns-clause-kept : goal.returns-clause-kept
returns-clause-kept c = keeps_then c.args.replica.now c.fill.new.replica c.conclude_filled.new.replica (lists_keep c.args.replica.now c.fill.new.replica c.in_ok-complete.ensures.kept) c.conclude_filled.ensures.kept
