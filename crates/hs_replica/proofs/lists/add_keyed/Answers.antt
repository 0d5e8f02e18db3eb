use Rattle.std.proofs.Common.{◌∙◌, ap, subst, ℕ, List, Contains, OnOk, unwrap_or, arith}
use Rattle.std.proofs.lemmas.Grind.{common_steps}
use Rattle.smallvec.specs.SmallVec.{SmallVec}
use Rattle.indexmap.specs.IndexMap.{get}
use Rattle.hs_replica.specs.contracts.key.KeyPartialEq.TheImpl.{eq-value}
use Rattle.hs_replica.proofs.GainLemmas.{had_items, key_added, key_written}
use Rattle.hs_replica.proofs.lists.add_keyed.Goals as goal

pub returns-clause-adds : goal.returns-clause-adds
returns-clause-adds c =
    let old = c.args.keyed.now in
    let w = c.push_once.new.list in
    let had = ap (λ (v : SmallVec ℕ). v.items) (c.or_insert-list.ensures.value ∙ ap (λ o. unwrap_or o c.new-none.result) c.in_ok-keyed.ensures.value)
    ∙ had_items (get eq-value.it old c.args.key) c.new-none.result c.new-none.ensures.items in
    let updates = (c.in_ok-keyed.ensures.update.0 w).0 in
    key_added old _ c.args.key c.args.place c.or_insert-list.result.now w had (λ q. grind (arith, common_steps, updates q)) c.push_once.ensures.adds

pub returns-clause-there : goal.returns-clause-there
returns-clause-there c =
    let old = c.args.keyed.now in
    let w = c.push_once.new.list in
    let had = ap (λ (v : SmallVec ℕ). v.items) (c.or_insert-list.ensures.value ∙ ap (λ o. unwrap_or o c.new-none.result) c.in_ok-keyed.ensures.value)
    ∙ had_items (get eq-value.it old c.args.key) c.new-none.result c.new-none.ensures.items in
    let updates = (c.in_ok-keyed.ensures.update.0 w).0 in
    subst (λ (xs : List ℕ). OnOk c.push_once.result (Contains xs c.args.place))
    (key_written old _ c.args.key c.args.place c.or_insert-list.result.now w had (λ q. grind (arith, common_steps, updates q))) c.push_once.ensures.there
