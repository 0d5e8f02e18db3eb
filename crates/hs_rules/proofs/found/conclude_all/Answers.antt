use Rattle.std.proofs.Common.{◌≡◌, sym, ◌∙◌, ℕ, ◌≤◌, List, ◌⊎◌, length, arith, inl, inr, Contains}
use Rattle.std.proofs.lemmas.Bool.{eqb-true}
use Rattle.std.proofs.lemmas.List.Sorted.{Contains-permutation, IsPermutation-sym}
use Rattle.hs_table.specs.Entries.{Env}
use Rattle.hs_rules.specs.Conclusions.{DeducedData}
use Rattle.hs_rules.specs.Found.{HeadData, seek, HeadLeadsTo, IsDeducedBy, HasEnvFound}
use Rattle.hs_rules.proofs.Lists.{on_ok_map}
use Rattle.hs_rules.proofs.KeepLemmas.{keeps_none}
use Rattle.hs_rules.proofs.FoundLemmas.{lowers_none}
use Rattle.hs_rules.proofs.found.conclude_all.Goals as goal

pub returns-then-is_empty-clause-rows : goal.returns-then-is_empty-clause-rows
returns-then-is_empty-clause-rows c = c.requires.rows

pub returns-then-is_empty-clause-lowers : goal.returns-then-is_empty-clause-lowers
returns-then-is_empty-clause-lowers c = lowers_none c.args.found.now.list.items

pub returns-then-is_empty-clause-only : goal.returns-then-is_empty-clause-only
returns-then-is_empty-clause-only c = λ d there. inl there

pub returns-then-is_empty-clause-all : goal.returns-then-is_empty-clause-all
returns-then-is_empty-clause-all c = λ few h there.
    let nothing : length c.args.heads.now ≡ 0 = eqb-true _ _ (sym c.is_empty.ensures ∙ c.if-is_empty.true) in
    absurd (omega (arith, there.1, nothing))

pub returns-then-is_empty-clause-kept : goal.returns-then-is_empty-clause-kept
returns-then-is_empty-clause-kept c = keeps_none c.args.replica.now

pub conclude_grouped-requires-clause-heads : goal.conclude_grouped-requires-clause-heads
conclude_grouped-requires-clause-heads c = λ h there.
    let old = c.args.heads.now in
    let new = c.group.new.heads in
    c.requires.heads h (Contains-permutation new old h (IsPermutation-sym old new c.group.ensures) there)

pub conclude_grouped-requires-clause-envs : goal.conclude_grouped-requires-clause-envs
conclude_grouped-requires-clause-envs c = λ h there.
    let old = c.args.heads.now in
    let new = c.group.new.heads in
    c.requires.envs h (Contains-permutation new old h (IsPermutation-sym old new c.group.ensures) there)

pub returns-clause-only : goal.returns-clause-only
returns-clause-only c =
    let I = c.args.replica.now.ids in
    let K = c.conclude_grouped.new.replica.ids in
    let log = c.args.replica.now.log in
    let s = seek c.args.search.now in
    let old = c.args.heads.now in
    let mid = c.group.new.heads in
    let new = c.conclude_grouped.new.found.list.items in
    on_ok_map c.conclude_grouped.result ((d : DeducedData) → Contains new d → Contains c.args.found.now.list.items d ⊎ ((h : HeadData) × Contains mid h × IsDeducedBy I K log s h d))
    ((d : DeducedData) → Contains new d → Contains c.args.found.now.list.items d ⊎ ((h : HeadData) × Contains old h × IsDeducedBy I K log s h d))
    (λ some d there. elim (some d there) [
      | inl was ↦ inl was
      | inr (h, among, k) ↦ inr (h, Contains-permutation mid old h (IsPermutation-sym old mid c.group.ensures) among, k)
    ]) c.conclude_grouped.ensures.only

pub returns-clause-all : goal.returns-clause-all
returns-clause-all c =
    let I = c.args.replica.now.ids in
    let K = c.conclude_grouped.new.replica.ids in
    let log = c.args.replica.now.log in
    let s = seek c.args.search.now in
    let old = c.args.heads.now in
    let mid = c.group.new.heads in
    let new = c.conclude_grouped.new.found.list.items in
    on_ok_map c.conclude_grouped.result (length new ≤ c.args.search.now.most → (h : HeadData) → Contains mid h → (args : List (ℕ × ℕ)) (env : Env) → HeadLeadsTo I log s h args env → HasEnvFound K s h args env new)
    (length new ≤ c.args.search.now.most → (h : HeadData) → Contains old h → (args : List (ℕ × ℕ)) (env : Env) → HeadLeadsTo I log s h args env → HasEnvFound K s h args env new)
    (λ all few h there. all few h (Contains-permutation old mid h c.group.ensures there)) c.conclude_grouped.ensures.all
