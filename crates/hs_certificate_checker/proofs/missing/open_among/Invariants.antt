-- so far all is covered or void by each type of the head
use Rattle.std.proofs.Common.{◌≡◌, ℕ, List, take, slice_get, Some, Contains}
use Rattle.hs_scheme.specs.flow.Points.{PointData}
use Rattle.hs_table.specs.Entries.{EntryData}
use Rattle.hs_weak.specs.Void.{VoidData}
use Rattle.hs_types.specs.Interned.{type_of_id, Grows}
use Rattle.hs_heads.specs.HeadTypes.{HeadTypeData, sets_of, AreHeadTypes}
use Rattle.hs_void.specs.Voids.{Fits}
use Rattle.hs_certificate_checker.specs.Settled.{StandFor, AreSettledBy}
use Rattle.hs_certificate_checker.proofs.missing.open_among.Given as goal

abbrev pub invariant-loop-head : goal.invariant-loop-head
invariant-loop-head l = record {
  grows : Grows l.fn.types l.types;
  fits : Fits l.types l.voids;
  basis : l.voids.basis ≡ l.fn.voids.basis;
  settled : (C : List EntryData) (V : List VoidData) (R : List (ℕ × ℕ)) (of : PointData) → StandFor l.fn.voids.basis l.fn.types C V → slice_get l.problem.points.points l.point ≡ Some of
      → AreHeadTypes l.problem C R l.point of l.fn.types l.heads → (h : HeadTypeData) → Contains (take l.head-index l.heads) h → AreSettledBy l.problem C V l.point of (sets_of l.fn.types h) (type_of_id l.fn.types h.ty);
}
