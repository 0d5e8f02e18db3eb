-- the sets agree so far, so that what is left decides
use Rattle.std.proofs.Common.{◌≡◌, ◌≤◌, length, drop}
use Rattle.std.specs.Cmp.Lexicographic.{slice_cmp}
use Rattle.hs_table.specs.Types.{type_cmp}
use Rattle.hs_table.proofs.entry.TypeSet.compare.Given as goal

abbrev pub invariant-loop-place : goal.invariant-loop-place
invariant-loop-place l = record {
  within : l.place ≤ length l.other-inside.types.items;
  left : slice_cmp type_cmp (drop l.place l.member-items) (drop l.place l.other-inside.types.items) ≡ slice_cmp type_cmp l.member-items l.other-inside.types.items;
}
