-- the types so far are marked
use Rattle.std.proofs.Common.{◌≡◌, ℕ, length, take, slice_get, Some, ◌⊎◌, ◌↔◌}
use Rattle.hs_types.specs.Interned.{set_of_id}
use Rattle.hs_sites.specs.declared.sites.Site.{Site}
use Rattle.hs_sites.specs.Listed.{data_of}
use Rattle.hs_sites.specs.Reaching.{IsOn}
use Rattle.hs_void.specs.Rows.{LacksOne}
use Rattle.hs_void.specs.Voids.{Remembers}
use Rattle.hs_void.proofs.missing.mark_set.Given as goal

abbrev pub invariant-loop-place : goal.invariant-loop-place
invariant-loop-place l = record {
  same : l.types ≡ l.fn.types;
  memo : Remembers l.fn.types l.basis l.memo;
  len : length l.marks.items ≡ length l.fn.marks.items;
  marks : (k : ℕ) (x : Site) → slice_get l.sites k ≡ Some x
      → IsOn l.marks.items k ↔ (IsOn l.fn.marks.items k ⊎ LacksOne l.basis.problem l.fn.types l.basis.table l.parameter (take l.place (set_of_id l.fn.types l.fn.set)) (data_of x));
}
