use Rattle.std.proofs.Common.{◌≡◌, refl, ◌∙◌, ap, subst, ◌∷◌, [], ◌++◌, set, arith, rules, Contains, ◌⊎◌, inl, inr}
use Rattle.std.proofs.lemmas.Option.{get_or_from_slice_get, slice_get_within}
use Rattle.hs_table.specs.Follows.{Support, premises}
use Rattle.hs_rules.specs.Order.{IsNoGreater}
use Rattle.hs_rules.specs.Conclusions.{DeducedData}
use Rattle.hs_rules.specs.Found.{RowsAre, HasNoGreater, Lowers}
use Rattle.hs_rules.proofs.Lists.{on_ok_map}
use Rattle.hs_rules.proofs.FoundLemmas.{row_pushed, found_keeps, found_only, lowers_keeps, lowered_rows, lowered_lowers, lowered_only, lowered_there}
use Rattle.hs_rules.proofs.found.add_found.Goals as goal

pub index_mut-there-requires : goal.index_mut-there-requires
index_mut-there-requires c = omega (arith, slice_get_within c.args.found.now.list.items c.in-Some.place c.in-Some.ensures.item c.in-Some.ensures.at, c.args.found.now.list.ok.0)

pub returns-in-Some-clause-rows : goal.returns-in-Some-clause-rows
returns-in-Some-clause-rows c =
    let list = c.args.found.now.list.items in
    let place = c.in-Some.place in
    let old = c.index_mut-there.result.now in
    let d = c.lower.new.deduced in
    let at = c.in-Some.ensures in
    let old_is : old ≡ at.item = c.index_mut-there.ensures.value ∙ get_or_from_slice_get list place at.item old at.at in
    let same = c.lower.ensures.row ∙ ap (λ (x : DeducedData). x.row) old_is in
    on_ok_map c.lower.result (IsNoGreater (premises d.support) (premises old.support)) (RowsAre c.args.found.now.rows.keys (set list place d))
    (λ least. lowered_rows c.args.found.now.rows.keys list (set list place d) place d c.args.row at refl same c.requires) c.lower.ensures.least

pub returns-in-Some-clause-lowers : goal.returns-in-Some-clause-lowers
returns-in-Some-clause-lowers c =
    let list = c.args.found.now.list.items in
    let place = c.in-Some.place in
    let old = c.index_mut-there.result.now in
    let d = c.lower.new.deduced in
    let at = c.in-Some.ensures in
    let old_is : old ≡ at.item = c.index_mut-there.ensures.value ∙ get_or_from_slice_get list place at.item old at.at in
    let same = c.lower.ensures.row ∙ ap (λ (x : DeducedData). x.row) old_is in
    on_ok_map c.lower.result (IsNoGreater (premises d.support) (premises old.support)) (Lowers list (set list place d))
    (λ least. lowered_lowers c.args.found.now.rows.keys list (set list place d) place d c.args.row at refl same (subst (λ (x : DeducedData). IsNoGreater (premises d.support) (premises x.support)) old_is least)) c.lower.ensures.least

pub returns-in-Some-clause-only : goal.returns-in-Some-clause-only
returns-in-Some-clause-only c =
    let list = c.args.found.now.list.items in
    let place = c.in-Some.place in
    let old = c.index_mut-there.result.now in
    let d = c.lower.new.deduced in
    let at = c.in-Some.ensures in
    let s : Support = record { head = c.args.head; args = c.args.args.now } in
    let old_is : old ≡ at.item = c.index_mut-there.ensures.value ∙ get_or_from_slice_get list place at.item old at.at in
    let same = c.lower.ensures.row ∙ ap (λ (x : DeducedData). x.row) old_is in
    on_ok_map c.lower.result ((d ≡ old) ⊎ (d.support ≡ s)) ((x : DeducedData) → Contains (set list place d) x → Contains list x ⊎ (x ≡ record { row = c.args.row; support = s }))
    (λ which. lowered_only c.args.found.now.rows.keys list (set list place d) place d c.args.row at refl same s (elim which [ inl was ↦ inl (was ∙ old_is) | inr is ↦ inr is ])) c.lower.ensures.one

pub returns-in-Some-clause-there : goal.returns-in-Some-clause-there
returns-in-Some-clause-there c =
    let list = c.args.found.now.list.items in
    let place = c.in-Some.place in
    let old = c.index_mut-there.result.now in
    let d = c.lower.new.deduced in
    let at = c.in-Some.ensures in
    let s : Support = record { head = c.args.head; args = c.args.args.now } in
    let old_is : old ≡ at.item = c.index_mut-there.ensures.value ∙ get_or_from_slice_get list place at.item old at.at in
    let same = c.lower.ensures.row ∙ ap (λ (x : DeducedData). x.row) old_is in
    on_ok_map c.lower.result (IsNoGreater (premises d.support) (premises s)) (HasNoGreater (set list place d) c.args.row s)
    (λ least. lowered_there c.args.found.now.rows.keys list (set list place d) place d c.args.row at refl same s least) c.lower.ensures.new_least

pub push_new-requires-clause-absent : goal.push_new-requires-clause-absent
push_new-requires-clause-absent c = c.in_default.ensures

pub returns-clause-rows : goal.returns-clause-rows
returns-clause-rows c = c.push_new.ensures.rows

pub returns-clause-lowers : goal.returns-clause-lowers
returns-clause-lowers c =
    let old = c.args.found.now.list.items in
    let new = c.push_new.new.found.list.items in
    let d : DeducedData = record { row = c.args.row; support = record { head = c.args.head; args = c.in_ok-args.args.items } } in
    on_ok_map c.push_new.result (new ≡ old ++ d ∷ []) (Lowers old new) (λ is. lowers_keeps old new (found_keeps old new d is)) c.push_new.ensures.added

pub returns-clause-there : goal.returns-clause-there
returns-clause-there c =
    let old = c.args.found.now.list.items in
    let new = c.push_new.new.found.list.items in
    let d : DeducedData = record { row = c.args.row; support = record { head = c.args.head; args = c.in_ok-args.args.items } } in
    on_ok_map c.push_new.result (new ≡ old ++ d ∷ []) (HasNoGreater new c.args.row (record { head = c.args.head; args = c.args.args.now }))
    (row_pushed old new c.args.row c.args.head c.args.args.now c.in_ok-args.args.items (c.in_ok-args.ensures.items_if_clones_equal (λ x y e. search rules))) c.push_new.ensures.added

pub returns-clause-only : goal.returns-clause-only
returns-clause-only c =
    let old = c.args.found.now.list.items in
    let new = c.push_new.new.found.list.items in
    let d : DeducedData = record { row = c.args.row; support = record { head = c.args.head; args = c.in_ok-args.args.items } } in
    let args_are = c.in_ok-args.ensures.items_if_clones_equal (λ x y e. search rules) in
    on_ok_map c.push_new.result (new ≡ old ++ d ∷ []) ((x : DeducedData) → Contains new x → Contains old x ⊎ (x ≡ record { row = c.args.row; support = record { head = c.args.head; args = c.args.args.now } }))
    (λ is x there. elim (found_only old new d is x there) [
      | inl was ↦ inl was
      | inr same ↦ inr (same ∙ (λ i. record { row = c.args.row; support = record { head = c.args.head; args = args_are i } }))
    ]) c.push_new.ensures.added
