use Rattle.std.proofs.Common.{rules}
use Rattle.std.proofs.lemmas.List.Elements.{All-weaker}
use Rattle.std.proofs.lemmas.List.Sorted.{IsNonDecreasingBy-from_sort_by_key, All-permutation}
use Rattle.hs_types.specs.Interned.{RowData, IsRow}
use Rattle.hs_types.proofs.Numbers.{row_within}
use Rattle.hs_choices.proofs.Staying.{rows_stay}
use Rattle.hs_certificate_checker.proofs.RowLemmas.{rows_moved}
use Rattle.hs_certificate_checker.proofs.numbers.numbered.Goals as goal

pub returns : goal.returns
returns c =
    let p = c.args.problem.now in
    let C = c.args.table.now in
    let I = c.table_rows.new.interner in
    let J = c.void_rows.new.interner in
    let g = c.void_rows.ensures.grows in
    let old = c.in_ok-rows.rows.items in
    let new = c.sort_unstable_by_key.new.self.items in
    let moved = c.sort_unstable_by_key.ensures.permutation in
    let range = All-permutation (IsRow I) old new moved c.in_ok-rows.ensures.range in
    record {
      rows = rows_stay I J g p C new range (rows_moved p C I old new moved c.in_ok-rows.ensures.rows);
      in_use = All-weaker (IsRow I) (IsRow J) (row_within I J g) new range;
      order = IsNonDecreasingBy-from_sort_by_key (λ (r : RowData). r.point) _ c.sort_unstable_by_key.ensures.sorted (λ a r q k. search rules);
      pairs = c.in_ok-void.ensures.pairs;
      envs = c.in_ok-void.ensures.range;
    }
