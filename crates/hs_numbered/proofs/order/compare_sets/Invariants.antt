-- the sets agree so far, so that what is left decides
use Rattle.std.proofs.Common.{◌≡◌, ◌≤◌, length, drop}
use Rattle.std.specs.Cmp.Lexicographic.{slice_cmp}
use Rattle.hs_table.specs.Types.{type_cmp}
use Rattle.hs_types.specs.Interned.{set_of_id}
use Rattle.hs_numbered.proofs.order.compare_sets.Given as goal

abbrev pub invariant-loop-place : goal.invariant-loop-place
invariant-loop-place l = record {
  within : l.place ≤ length (set_of_id l.interner l.fn.other);
  left : slice_cmp type_cmp (drop l.place (set_of_id l.interner l.fn.set)) (drop l.place (set_of_id l.interner l.fn.other))
      ≡ slice_cmp type_cmp (set_of_id l.interner l.fn.set) (set_of_id l.interner l.fn.other);
}
