use Rattle.std.proofs.Common.{◌≡◌, ◌≤◌, List, [], length}
use Rattle.hs_reader.specs.declared.raw.RawName.{RawName}
use Rattle.hs_reader.specs.Raw.{Rule, Transition}
use Rattle.hs_reader.specs.ReadingStages.{in_children, read}
use Rattle.hs_reader.proofs.reader.children.Given as goal

abbrev pub invariant-loop-bytes : goal.invariant-loop-bytes
invariant-loop-bytes l =
    ((rs : List Rule) (us : List Transition) (q a : RawName) → read (in_children rs us q a []) l.initial.cursor.line l.initial.cursor.rest.now ≡ read (in_children rs us q a l.to.items) l.cursor.line l.cursor.rest.now)
    × (length l.cursor.rest.now ≤ length l.initial.cursor.rest.now)

abbrev pub decreases-loop-bytes : goal.decreases-loop-bytes
decreases-loop-bytes l = length l.cursor.rest.now
