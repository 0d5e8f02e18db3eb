-- so far all is covered or void at each point
use Rattle.std.proofs.Common.{◌≡◌, ℕ, ◌<◌, List}
use Rattle.hs_table.specs.Entries.{EntryData}
use Rattle.hs_weak.specs.Void.{VoidData}
use Rattle.hs_types.specs.Interned.{Grows}
use Rattle.hs_void.specs.Voids.{Fits}
use Rattle.hs_certificate_checker.specs.Settled.{StandFor, AreSettledAt}
use Rattle.hs_certificate_checker.proofs.missing.first_missing.Given as goal

abbrev pub invariant-loop-point : goal.invariant-loop-point
invariant-loop-point l = record {
  grows : Grows l.fn.types l.types;
  fits : Fits l.types l.voids;
  basis : l.voids.basis ≡ l.fn.voids.basis;
  settled : (C : List EntryData) (V : List VoidData) → StandFor l.fn.voids.basis l.fn.types C V → (point : ℕ) → point < l.point → AreSettledAt l.problem C V l.reads point;
}
