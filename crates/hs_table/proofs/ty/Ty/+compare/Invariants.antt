-- the sets agree so far, so that what is left decides
use Rattle.std.proofs.Common.{◌≡◌, ◌≤◌, length, drop}
use Rattle.hs_scheme.specs.Tree.{forest}
use Rattle.hs_table.specs.Types.{types_cmp}
use Rattle.hs_table.proofs.ty.Ty.+compare.Given as goal

abbrev pub invariant-loop-place : goal.invariant-loop-place
invariant-loop-place l = record {
  within : l.place ≤ length l.others.items;
  left : types_cmp (forest (drop l.place l.member-items)) (forest (drop l.place l.others.items)) ≡ types_cmp (forest l.member-items) (forest l.others.items);
}
