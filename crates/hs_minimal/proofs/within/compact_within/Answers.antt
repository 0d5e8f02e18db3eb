use Rattle.std.proofs.Common.{sym, ◌∙◌, ap, subst, List, map, All, Vec, rules}
use Rattle.std.specs.Ordering.{is_lt}
use Rattle.std.specs.declared.alloc.Global.{Global}
use Rattle.std.proofs.lemmas.List.Sorted.{ranks_by, answers_always}
use Rattle.hs_table.specs.Entries.{EntryData, entry_cmp}
use Rattle.hs_table_laws.proofs.Orders.{entry_cmp_total}
use Rattle.hs_types.specs.Interned.{RowData, IsRow, entry_of}
use Rattle.hs_minimal.specs.Strongest.{MatchExactly, AreStrongest}
use Rattle.hs_minimal.proofs.StrongestLemmas.{some_in_use}
use Rattle.hs_minimal.proofs.WithinLemmas.{strongest_table, of_some}
use Rattle.hs_minimal.proofs.within.compact_within.Goals as goal

pub trees-requires : goal.trees-requires
trees-requires c =
    let I = c.args.types.now in
    let rows = c.args.rows.now in
    let found = of_some c.in_ok-kept.field-0 c.in-Some.kept (λ (kept : Vec RowData Global). AreStrongest I rows kept.items × MatchExactly I rows) c.in-Some.is c.in_ok-kept.ensures in
    subst (λ (rs : List RowData). All (IsRow I) rs) (sym c.as_slice.ensures.value) (some_in_use (IsRow I) rows c.in-Some.kept.items c.requires.rows found.0.within)

pub returns-in_ok-sort_by-in-Some : goal.returns-in_ok-sort_by-in-Some
returns-in_ok-sort_by-in-Some c =
    let I = c.args.types.now in
    let rows = c.args.rows.now in
    let kept = c.in-Some.kept.items in
    let found = of_some c.in_ok-kept.field-0 c.in-Some.kept (λ (kept : Vec RowData Global). AreStrongest I rows kept.items × MatchExactly I rows) c.in-Some.is c.in_ok-kept.ensures in
    strongest_table c.args.problem.now c.know_sorted_problem.ensures I rows c.requires.least kept found.0 found.1 c.in_ok-table-in-Some.table.items c.sort_by.new.self.items (c.in_ok-table-in-Some.ensures ∙ ap (map (entry_of I)) c.as_slice.ensures.value)
    c.sort_by.ensures.permutation (c.in_ok-sort_by-in-Some.ensures.sorted (λ a b. is_lt (entry_cmp a b)) (ranks_by entry_cmp_total (λ (e : EntryData). e)) (answers_always _ _ _ (λ f a r k h. search rules))) c.args.budget c.requires.few
