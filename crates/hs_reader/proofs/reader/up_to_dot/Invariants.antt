use Rattle.std.proofs.Common.{◌≡◌, ◌≤◌, List, length}
use Rattle.hs_reader.specs.declared.raw.RawName.{RawName}
use Rattle.hs_reader.specs.Raw.{Rule}
use Rattle.hs_reader.specs.ReadingStages.{in_body, read}
use Rattle.hs_reader.proofs.reader.up_to_dot.Given as goal

abbrev pub invariant-loop-bytes : goal.invariant-loop-bytes
invariant-loop-bytes l =
    ((rs : List Rule) (n : RawName) (ps : List RawName) → read (in_body rs n ps l.initial.building.outer l.initial.building.top) l.initial.cursor.line l.initial.cursor.rest.now ≡ read (in_body rs n ps l.building.outer l.building.top) l.cursor.line l.cursor.rest.now)
    × (length l.cursor.rest.now ≤ length l.initial.cursor.rest.now)

abbrev pub decreases-loop-bytes : goal.decreases-loop-bytes
decreases-loop-bytes l = length l.cursor.rest.now
