-- the sets agree so far, so that what is left decides
use Rattle.std.proofs.Common.{◌≡◌, ◌≤◌, length, drop, map}
use Rattle.std.specs.Cmp.Lexicographic.{slice_cmp}
use Rattle.hs_table.specs.Types.{type_cmp}
use Rattle.hs_types.specs.Interned.{type_of_id}
use Rattle.hs_rank.proofs.comparing.compare_sets.Given as goal

abbrev pub invariant-loop-place : goal.invariant-loop-place
invariant-loop-place l = record {
  within : l.place ≤ length l.others;
  left : slice_cmp type_cmp (map (type_of_id l.interner) (drop l.place l.members)) (map (type_of_id l.interner) (drop l.place l.others))
      ≡ slice_cmp type_cmp (map (type_of_id l.interner) l.members) (map (type_of_id l.interner) l.others);
}
