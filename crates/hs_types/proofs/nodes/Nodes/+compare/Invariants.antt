-- the sets agree so far, so that what is left decides; a type is lower than one that has it
use Rattle.std.proofs.Common.{◌≡◌, ◌≤◌, length, drop, ◌+◌, ◌*◌}
use Rattle.std.specs.Cmp.Lexicographic.{slice_cmp}
use Rattle.hs_scheme.specs.Tree.{height, heights, forest}
use Rattle.hs_table.specs.Types.{type_cmp}
use Rattle.hs_types.specs.Interned.{type_of_id, set_of_id}
use Rattle.hs_types.specs.Nodes.{items_at}
use Rattle.hs_table.specs.Types.{state}
use Rattle.hs_types.proofs.nodes.Nodes.+compare.Given as goal

abbrev pub decreases-compare : goal.decreases-compare
decreases-compare l = 2 * height (type_of_id l.self.now l.a) + 1

abbrev pub decreases-compare_sets : goal.decreases-compare_sets
decreases-compare_sets l = 2 * heights (forest (set_of_id l.self.now l.set))

abbrev pub invariant-compare_sets-loop-place : goal.invariant-compare_sets-loop-place
invariant-compare_sets-loop-place l = record {
  within : l.place ≤ length l.others;
  left : slice_cmp type_cmp (items_at l.self.types (state 0) (drop l.place l.members)) (items_at l.self.types (state 0) (drop l.place l.others))
      ≡ slice_cmp type_cmp (set_of_id l.self l.fn.set) (set_of_id l.self l.fn.other);
}
