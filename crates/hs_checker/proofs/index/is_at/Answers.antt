use Rattle.std.proofs.Common.{◌≡◌, sym, ◌∙◌, subst, length, map, Contains, Bor}
use Rattle.std.proofs.lemmas.Bool.{eqb-true, ltb-true}
use Rattle.std.specs.Ordering.{ordering_index}
use Rattle.std.specs.declared.cmp.Ordering.TheVariants.{Equal}
use Rattle.hs_types.specs.Interned.{RowData}
use Rattle.hs_table_laws.proofs.Members.{into_map}
use Rattle.hs_checker.specs.Order.{row_cmp}
use Rattle.hs_checker.proofs.Once.{index_tied}
use Rattle.hs_checker.proofs.IndexLemmas.{index_same}
use Rattle.hs_checker.proofs.index.is_at.Goals as goal

pub returns-in-Some : goal.returns-in-Some
returns-in-Some c = λ h.
    let rows = c.args.rows.now in
    let f : Bor RowData → RowData = λ r. r.now in
    let r = c.in-Some.own.now in
    let tied : row_cmp r.now c.args.row.now ≡ Equal = sym c.order.ensures ∙ index_tied c.order.result (eqb-true (ordering_index c.order.result) 1 (sym c.eq.ensures ∙ h)) in
    let there : Contains rows r = (c.args.place, ltb-true c.args.place (length rows) (sym c.in-Some.ensures.lookup.0), sym c.in-Some.ensures.lookup.1) in
    subst (λ (e : RowData). Contains (map f rows) e) (index_same r.now c.args.row.now tied) (into_map f rows r there)
