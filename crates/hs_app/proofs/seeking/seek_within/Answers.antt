use Rattle.std.proofs.Common.{◌≡◌, sym, ◌∙◌, ap, subst, ℕ, ◌≤◌, List, length, map, All}
use Rattle.std.proofs.lemmas.List.{length-map}
use Rattle.hs_table.specs.Entries.{EntryData}
use Rattle.hs_table.specs.Tables.{IsLeastTable}
use Rattle.hs_types.specs.Interned.{InternerData, RowData, IsRow, entry_of}
use Rattle.hs_core.specs.Core.{log_of}
use Rattle.hs_app.proofs.seeking.seek_within.Goals as goal

pub compact_within-requires-clause-rows : goal.compact_within-requires-clause-rows
compact_within-requires-clause-rows c =
    let ids = c.args.core.now.ids in
    subst (λ (I : InternerData). All (IsRow I) c.as_slice.result.now) (sym (c.interner.ensures ∙ c.replica-replica.ensures.ids))
    (subst (λ (rs : List RowData). All (IsRow ids) rs) (sym c.as_slice.ensures.value) c.in_ok-rows.ensures.rows)

pub compact_within-requires-clause-few : goal.compact_within-requires-clause-few
compact_within-requires-clause-few c =
    let rows = c.in_ok-rows.rows.items in
    let long = ap (λ (es : List EntryData). length es) c.in_ok-rows.ensures.entries in
    let same : length c.as_slice.result.now ≡ length (log_of c.args.core.now) = ap (λ (rs : List RowData). length rs) c.as_slice.ensures.value ∙ (sym (length-map rows (entry_of c.args.core.now.ids)) ∙ long) in
    subst (λ n. n ≤ c.args.budget) (sym same) c.requires.few

pub compact_within-requires-clause-least : goal.compact_within-requires-clause-least
compact_within-requires-clause-least c =
    let told : map (entry_of c.interner.result.now) c.as_slice.result.now ≡ log_of c.args.core.now =
    ap (λ (I : InternerData). map (entry_of I) c.as_slice.result.now) (c.interner.ensures ∙ c.replica-replica.ensures.ids) ∙ (ap (map (entry_of c.args.core.now.ids)) c.as_slice.ensures.value ∙ c.in_ok-rows.ensures.entries) in
    subst (λ (T : List EntryData). IsLeastTable c.args.problem.now T) (sym told) c.requires.least
