-- the types so far stand behind the brace
use Rattle.std.proofs.Common.{◌+◌, ◌*◌, take, map, codes}
use Rattle.std.specs.List.{join_by}
use Rattle.hs_scheme.specs.Tree.{height, heights, forest}
use Rattle.hs_text.specs.Report.{type_text}
use Rattle.hs_text.specs.Pieces.{Puts}
use Rattle.hs_text.proofs.table.+types.Given as goal

abbrev pub decreases-push_type : goal.decreases-push_type
decreases-push_type l = 2 * height l.ty.now + 1

abbrev pub decreases-push_set : goal.decreases-push_set
decreases-push_set l = 2 * heights (forest l.set.now)

abbrev pub invariant-push_set-loop-place : goal.invariant-push_set-loop-place
invariant-push_set-loop-place l = Puts l.initial.text l.text (join_by (λ t. t) (codes ",") (map (type_text l.states) (take l.place l.set)))
