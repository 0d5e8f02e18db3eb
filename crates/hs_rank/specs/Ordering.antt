-- What was found in the order of its entries, told by places.
--     entries_of      the entries of what was found
--     found_at        what stands at a place
--     picked          what stands at these places
--     AreInOrder      the entries at the places ascend, and each that was found is there with a support that is no greater
--     is_less_at      the entry at one place is less than that at another
--     AreSorted       each place of what was found once, and no entry there is less than the one before it
--     HasSorted       the places of a bucket stand at the end, in ascending order of the entries there
use Rattle.std.specs.Prelude.{◌≡◌, ◌≢◌, ℕ, ◌<◌, Bool, List, [], ◌++◌, length, map, get_or, slice_get, All, AllPairs, Contains}
use Rattle.std.specs.List.{range_with_len}
use Rattle.std.specs.List.Sorted.{IsPermutation, IsSortedBy}
use Rattle.std.specs.Option.{option_cmp}
use Rattle.std.specs.Ordering.{is_lt}
use Rattle.hs_scheme.specs.flow.Flow.{IsAscending}
use Rattle.hs_table.specs.declared.support.HeadBy.TheVariants.{Rule}
use Rattle.hs_table.specs.Entries.{EntryData, entry_cmp}
use Rattle.hs_types.specs.Interned.{InternerData, entry_of}
use Rattle.hs_rules.specs.Conclusions.{DeducedData}
use Rattle.hs_rules.specs.Found.{Lowers}

abbrev pub entries_of : InternerData → List DeducedData → List EntryData
entries_of ids found = map (λ d. entry_of ids d.row) found

abbrev pub found_at : List DeducedData → ℕ → DeducedData
found_at found k = get_or found k (record { row = record { point = 0; env = 0; ty = 0 }; support = record { head = Rule 0; args = [] } })

abbrev pub picked : List DeducedData → List ℕ → List DeducedData
picked found places = map (found_at found) places

pub record AreInOrder (ids : InternerData) (found : List DeducedData) (places : List ℕ) : Type 0 where
  pub within : All (λ k. k < length found) places
  pub once : AllPairs (λ a b. a ≢ b) places
  pub ascending : IsAscending entry_cmp (entries_of ids (picked found places))
  pub only : (d : DeducedData) → Contains (picked found places) d → Contains found d
  pub lowers : Lowers found (picked found places)

abbrev pub is_less_at : InternerData → List DeducedData → ℕ → ℕ → Bool
is_less_at ids found i j = is_lt (option_cmp entry_cmp (slice_get (entries_of ids found) i) (slice_get (entries_of ids found) j))

pub record AreSorted (ids : InternerData) (found : List DeducedData) (places : List ℕ) : Type 0 where
  pub permutation : IsPermutation (range_with_len 0 (length found)) places
  pub sorted : IsSortedBy (is_less_at ids found) places

pub record HasSorted (ids : InternerData) (found : List DeducedData) (bucket old new : List ℕ) : Type 0 where
  pub added : List ℕ
  pub is : new ≡ old ++ added
  pub permutation : IsPermutation bucket added
  pub sorted : IsSortedBy (is_less_at ids found) added
