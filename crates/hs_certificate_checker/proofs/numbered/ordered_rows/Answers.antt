use Rattle.std.proofs.Common.{rules, ◌≡◌, refl, sym, ◌∙◌, ap, subst, ◌+◌, List, [], ◌∷◌, length, map, take, All, true, false, Vec, Global, vec_capacity, arith, length-append}
use Rattle.std.proofs.lemmas.List.Elements.{All-push}
use Rattle.std.proofs.lemmas.List.Sorted.{IsNonDecreasingBy-from_sort_by_key, All-permutation}
use Rattle.hs_types.specs.Interned.{RowData, IsRow, entry_of}
use Rattle.hs_choices.specs.Numbered.{AreTableRows}
use Rattle.hs_numbered.proofs.Mapped.{mapped_long, mapped_within, mapped_read, read_within}
use Rattle.hs_certificate_checker.proofs.RowLemmas.{next_row, skip_row, all_rows, rows_moved}
use Rattle.hs_certificate_checker.proofs.numbered.ordered_rows.Goals as goal
use Rattle.hs_certificate_checker.proofs.numbered.ordered_rows.Goals.{then-is_row_in_shape, else-is_row_in_shape}

pub loop-row-preserved : goal.loop-row-preserved
loop-row-preserved c =
    let p = c.args.problem.now in
    let I = c.args.interner.now in
    let T = c.args.table.now in
    let C = map (entry_of I) T in
    let k = c.loop-row.row-index in
    let row = c.row-item.result in
    let rows = c.loop-row.rows.items in
    let inv = c.loop-row.invariant in
    let lt = mapped_within (entry_of I) T C refl k row c.loop-row-test.true c.row-item.is in
    let is = mapped_read (entry_of I) T C refl k row c.loop-row-test.true c.row-item.is in
    let used = read_within (IsRow I) T k row c.requires c.loop-row-test.true c.row-item.is in
    elim c.if-is_row_in_shape.branch [
      | then-is_row_in_shape w ↦
          let new = ap (λ (v : Vec RowData Global). v.items) w.rows-is ∙ w.push_reserved.ensures.items in
          record {
            range = subst (λ (z : List RowData). All (IsRow I) z) (sym new) (All-push (IsRow I) rows row inv.range used);
            rows = next_row p C I rows k (entry_of I row) lt is inv.rows (c.is_row_in_shape.ensures.0 w.if-is_row_in_shape.true) row c.if-is_row_in_shape.rows.items refl new;
            few = omega (arith, ap length new, length-append rows (row ∷ []), inv.few);
            room = omega (arith, ap (λ (v : Vec RowData Global). vec_capacity v) w.rows-is, w.push_reserved.ensures.capacity, inv.room);
          }
      | else-is_row_in_shape w ↦
          let same = ap (λ (v : Vec RowData Global). v.items) w.rows-is in
          record {
            range = subst (λ (z : List RowData). All (IsRow I) z) (sym same) inv.range;
            rows = subst (λ (z : List RowData). AreTableRows p (take (k + 1) C) I z) (sym same)
                (skip_row p C I rows k (entry_of I row) lt is inv.rows (λ shape. let f : false ≡ true = sym w.if-is_row_in_shape.false ∙ c.is_row_in_shape.ensures.1 shape in absurd (cc)));
            few = omega (arith, ap length same, inv.few);
            room = omega (arith, ap (λ (v : Vec RowData Global). vec_capacity v) w.rows-is, inv.room);
          }
    ]

pub returns-clause-rows : goal.returns-clause-rows
returns-clause-rows c =
    let p = c.args.problem.now in
    let I = c.args.interner.now in
    let C = map (entry_of I) c.args.table.now in
    let long = mapped_long (entry_of I) c.args.table.now C refl in
    rows_moved p C I c.loop-row.rows.items c.sort_unstable_by_key.new.self.items c.sort_unstable_by_key.ensures.permutation (all_rows p C I c.loop-row.rows.items c.loop-row.row-index (omega (arith, long, c.loop-row-test.false)) c.loop-row.invariant.rows)

pub returns-clause-range : goal.returns-clause-range
returns-clause-range c = All-permutation (IsRow c.args.interner.now) c.loop-row.rows.items c.sort_unstable_by_key.new.self.items c.sort_unstable_by_key.ensures.permutation c.loop-row.invariant.range

pub returns-clause-order : goal.returns-clause-order
returns-clause-order c = IsNonDecreasingBy-from_sort_by_key (λ (r : RowData). r.point) _ c.sort_unstable_by_key.ensures.sorted (λ a r q k. search rules)
