-- all that come of the head's types so far are there, and none twice
use Rattle.std.proofs.Common.{◌≢◌, AllPairs, Contains, ◌↔◌, take, ◌∷◌, []}
use Rattle.std.specs.List.{flat_map}
use Rattle.hs_table.specs.Entries.{EntryData}
use Rattle.hs_table_plain.specs.Enumeration as plain
use Rattle.hs_table_plain.proofs.following.gathered.Given as goal

abbrev pub invariant-loop-ty : goal.invariant-loop-ty
invariant-loop-ty l = record {
  once : AllPairs (λ a b. a ≢ b) l.found.items;
  each : (e : EntryData) → Contains l.found.items e ↔ Contains (flat_map (λ t. plain.through l.log l.args t (plain.opening l.point l.params l.head t ∷ [])) (take l.ty-index l.ty-items)) e;
}
