use Rattle.std.proofs.Common.{rules, ◌≡◌, map, subst, Bor}
use Rattle.std.specs.Ordering.{is_lt}
use Rattle.std.specs.List.Sorted.{IsPermutation}
use Rattle.std.proofs.lemmas.List.Sorted.{IsPermutation-map, IsPermutation-sym, Contains-permutation, ranks_by, answers_always}
use Rattle.hs_scheme.proofs.Orderings.{ascends}
use Rattle.hs_table.specs.Entries.{EntryData, entry_cmp}
use Rattle.hs_table_laws.proofs.Orders.{entry_cmp_total, entry_same}
use Rattle.hs_text.proofs.Ascending.{sorted_values}
use Rattle.hs_text.proofs.table.in_order.Goals as goal

pub returns-clause-ascending : goal.returns-clause-ascending
returns-clause-ascending c =
    let are : map (λ (e : Bor EntryData). e.now) c.in_ok-entries.entries.items ≡ c.args.table.now = search rules in
    let moved : IsPermutation c.args.table.now (map (λ (e : Bor EntryData). e.now) c.sort_by.new.self.items) =
    subst (λ xs. IsPermutation xs (map (λ (e : Bor EntryData). e.now) c.sort_by.new.self.items)) are
    (IsPermutation-map (λ (e : Bor EntryData). e.now) c.in_ok-entries.entries.items c.sort_by.new.self.items c.sort_by.ensures.permutation) in
    ascends entry_cmp entry_cmp_total entry_same c.args.table.now _ c.requires moved
    (sorted_values entry_cmp c.sort_by.new.self.items (c.in_ok-sort_by.ensures.sorted (λ a b. is_lt (entry_cmp a.now b.now)) (ranks_by entry_cmp_total (λ (e : Bor EntryData). e.now)) (answers_always _ _ (tt) (λ f a r g k. search rules))))

pub returns-clause-same : goal.returns-clause-same
returns-clause-same c =
    let are : map (λ (e : Bor EntryData). e.now) c.in_ok-entries.entries.items ≡ c.args.table.now = search rules in
    let moved : IsPermutation c.args.table.now (map (λ (e : Bor EntryData). e.now) c.sort_by.new.self.items) =
    subst (λ xs. IsPermutation xs (map (λ (e : Bor EntryData). e.now) c.sort_by.new.self.items)) are
    (IsPermutation-map (λ (e : Bor EntryData). e.now) c.in_ok-entries.entries.items c.sort_by.new.self.items c.sort_by.ensures.permutation) in
    λ e. (
      λ there. Contains-permutation _ _ e (IsPermutation-sym _ _ moved) there,
      λ there. Contains-permutation _ _ e moved there,
    )
