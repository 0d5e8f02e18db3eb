-- What waits to be published, and what is known with it.
--     Waits m d                   the conclusion is in the table, under its row
--     HasRow m row                a conclusion stands under the row
--     IsKeyed m                   each conclusion of the table stands under its row
--     IsThereOrWaits ids log W e  the entry is in the log, or a conclusion of it waits
use Rattle.std.specs.Prelude.{◌≡◌, List, Some, IsSome, Contains, ◌⊎◌}
use Rattle.indexmap.specs.IndexMap.{IndexMap, get}
use Rattle.hs_table.specs.Entries.{EntryData}
use Rattle.hs_types.specs.Interned.{InternerData, RowData, entry_of}
use Rattle.hs_types.specs.contracts.ids.RowPartialEq.TheImpl.{eq-value}
use Rattle.hs_rules.specs.Conclusions.{DeducedData}

abbrev pub Waits : {S : Type 0} → IndexMap RowData DeducedData S → DeducedData → Type 0
Waits m d = get eq-value.it m d.row ≡ Some d

abbrev pub HasRow : {S : Type 0} → IndexMap RowData DeducedData S → RowData → Type 0
HasRow m row = IsSome (get eq-value.it m row)

abbrev pub IsKeyed : {S : Type 0} → IndexMap RowData DeducedData S → Type 0
IsKeyed m = (r : RowData) (d : DeducedData) → get eq-value.it m r ≡ Some d → d.row ≡ r

abbrev pub IsThereOrWaits : InternerData → List EntryData → (DeducedData → Type 0) → EntryData → Type 0
IsThereOrWaits ids log W e = Contains log e ⊎ ((d : DeducedData) × (W d × (entry_of ids d.row ≡ e)))
