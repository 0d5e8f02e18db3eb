-- those of the entries so far are there, and none twice
use Rattle.std.proofs.Common.{◌≢◌, take, AllPairs, Contains, ◌⊎◌, ◌↔◌}
use Rattle.hs_table.specs.Entries.{EntryData}
use Rattle.hs_table_plain.proofs.following.add_new.Given as goal

abbrev pub invariant-loop-entry : goal.invariant-loop-entry
invariant-loop-entry l = record {
  once : AllPairs (λ a b. a ≢ b) l.found.items;
  each : (e : EntryData) → Contains l.found.items e ↔ (Contains l.initial.found.items e ⊎ Contains (take l.entry-index l.entries) e);
}
