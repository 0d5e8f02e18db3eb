use Rattle.std.proofs.Common.{sym, ◌∙◌, ap, subst, List, inl, inr, Contains}
use Rattle.std.proofs.lemmas.List.{take_all}
use Rattle.hs_scheme.proofs.Lists.{none_in}
use Rattle.hs_table.specs.Follows.{Support}
use Rattle.hs_rules.specs.Joins.{PartialData}
use Rattle.hs_types.specs.Interned.{RowData}
use Rattle.hs_rules.specs.Conclusions.{DeducedData}
use Rattle.hs_rules.specs.Found.{HeadData, RowsAre, Lowers, HasNoGreater, HasRow}
use Rattle.hs_rules.proofs.Lists.{taken_cases}
use Rattle.hs_rules.proofs.FoundLemmas.{lowers_none, lower_then, lowers_then}
use Rattle.hs_rules.proofs.found.add_all.Goals as goal

pub loop-partial-init : goal.loop-partial-init
loop-partial-init c =
    let old = c.args.found.now.list.items in
    let rows_are = c.make_room.ensures.rows in
    let list_is = c.make_room.ensures.list in
    record {
      rows = subst (λ (ks : List RowData). RowsAre ks c.make_room.new.found.list.items) (sym rows_are) (subst (λ (ds : List DeducedData). RowsAre c.args.found.now.rows.keys ds) (sym list_is) c.requires);
      lowers = subst (λ (ds : List DeducedData). Lowers old ds) (sym list_is) (lowers_none old);
      rows_of = λ d there. inl (subst (λ (ds : List DeducedData). Contains ds d) list_is there);
      all = λ x there. absurd (none_in x there);
    }

pub loop-partial-preserved : goal.loop-partial-preserved
loop-partial-preserved c =
    let h = c.args.head.now in
    let item = c.partial-item.result in
    let among : Contains c.args.partials.now item = (c.loop-partial.partial-index, c.loop-partial-test.true, sym c.partial-item.is) in
    let by_is = ap (λ (x : HeadData). x.by) c.head.view_is in
    let rest_is = ap (λ (x : HeadData). x.rest) c.head.view_is in
    let env_is = ap (λ (x : PartialData). x.env) c.partial.view_is in
    let args_is = c.as_slice.ensures ∙ ap (λ (x : PartialData). x.args) c.partial.view_is in
    record {
      rows = c.in_ok-add_found.ensures.rows;
      lowers = lowers_then c.args.found.now.list.items c.loop-partial.found.list.items c.add_found.new.found.list.items c.loop-partial.invariant.lowers c.in_ok-add_found.ensures.lowers;
      rows_of = λ d there. elim (c.in_ok-add_found.ensures.only d there) [
        | inl was ↦ c.loop-partial.invariant.rows_of d was
        | inr is ↦ inr (record { from = item; among = among; is = is ∙ (λ i. record { row = record { point = c.args.point; env = env_is i; ty = rest_is i }; support = record { head = by_is i; args = args_is i } }) })
      ];
      all = λ x there. elim (taken_cases c.args.partials.now c.loop-partial.partial-index item x c.loop-partial-test.true c.partial-item.is there) [
        | inl was ↦ lower_then c.loop-partial.found.list.items c.add_found.new.found.list.items (record { point = c.args.point; env = x.env; ty = h.rest }) (record { head = h.by; args = x.args }) (c.loop-partial.invariant.all x was) c.in_ok-add_found.ensures.lowers
        | inr is ↦
            let r = c.in_ok-add_found.ensures.there in
            subst (λ (y : PartialData). HasRow c.args.point h y c.add_found.new.found.list.items) (sym is)
            (subst (λ (s : Support). HasNoGreater c.add_found.new.found.list.items (record { point = c.args.point; env = item.env; ty = h.rest }) s) (λ i. record { head = by_is i; args = args_is i })
            (record { item = r.item; there = r.there; is = r.is ∙ (λ i. record { point = c.args.point; env = env_is i; ty = rest_is i }); least = r.least }))
      ];
    }

pub returns-clause-all : goal.returns-clause-all
returns-clause-all c = λ x there.
    c.loop-partial.invariant.all x (subst (λ (xs : List PartialData). Contains xs x) (sym (take_all c.loop-partial.partial-index c.args.partials.now c.loop-partial-test.false)) there)
