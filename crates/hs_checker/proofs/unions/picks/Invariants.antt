-- what is left to choose for
use Rattle.std.proofs.Common.{ℕ, drop, Contains, ◌↔◌}
use Rattle.hs_table.specs.Entries.{EntryData}
use Rattle.hs_table_plain.specs.Enumeration as plain
use Rattle.hs_types.specs.Interned.{set_of_id, Grows}
use Rattle.hs_checker.specs.Numbers.{entries_of, opened_by, AreEnvs, AreLong}
use Rattle.hs_checker.proofs.unions.picks.Given as goal

abbrev pub invariant-loop-place : goal.invariant-loop-place
invariant-loop-place l = record {
  grows : Grows l.fn.types l.types;
  range : (n : ℕ) → AreEnvs n l.fn.types l.fn.kept.items → AreLong n (entries_of l.fn.types l.index) l.arg → AreEnvs n l.types l.found.items;
  each : (u : ℕ) (e : EntryData) → Contains (plain.picks (entries_of l.fn.types l.index) l.arg (drop l.place (set_of_id l.fn.types l.set)) (opened_by l.types u l.found.items)) e
      ↔ Contains (plain.picks (entries_of l.fn.types l.index) l.arg (set_of_id l.fn.types l.set) (opened_by l.fn.types u l.fn.kept.items)) e;
}
