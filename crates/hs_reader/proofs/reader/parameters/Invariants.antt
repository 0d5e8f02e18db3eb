use Rattle.std.proofs.Common.{◌≡◌, ◌≤◌, List, [], length}
use Rattle.hs_reader.specs.declared.raw.RawName.{RawName}
use Rattle.hs_reader.specs.Raw.{Rule}
use Rattle.hs_reader.specs.ReadingStages.{in_head, read}
use Rattle.hs_reader.proofs.reader.parameters.Given as goal

abbrev pub invariant-loop-bytes : goal.invariant-loop-bytes
invariant-loop-bytes l =
    ((rs : List Rule) (n : RawName) → read (in_head rs n []) l.initial.cursor.line l.initial.cursor.rest.now ≡ read (in_head rs n l.params.items) l.cursor.line l.cursor.rest.now)
    × (length l.cursor.rest.now ≤ length l.initial.cursor.rest.now)

abbrev pub decreases-loop-bytes : goal.decreases-loop-bytes
decreases-loop-bytes l = length l.cursor.rest.now
