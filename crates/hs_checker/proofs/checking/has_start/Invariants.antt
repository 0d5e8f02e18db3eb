-- none so far is the start entry
use Rattle.std.proofs.Common.{◌≡◌, [], take, Contains}
use Rattle.hs_table.specs.Types.{state}
use Rattle.hs_table.specs.Entries.{EntryData}
use Rattle.hs_checker.proofs.checking.has_start.Given as goal

abbrev pub invariant-loop-entry : goal.invariant-loop-entry
invariant-loop-entry l = (e : EntryData) → Contains (take l.entry-index l.table) e → (e.point ≡ l.body) × ((e.env ≡ []) × (e.ty ≡ state 0)) → ⊥
