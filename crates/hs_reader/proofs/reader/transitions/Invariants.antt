use Rattle.std.proofs.Common.{◌≡◌, List, [], length}
use Rattle.hs_reader.specs.Raw.{Rule}
use Rattle.hs_reader.specs.ReadingStages.{in_transitions, read}
use Rattle.hs_reader.proofs.reader.transitions.Given as goal

abbrev pub invariant-loop-bytes : goal.invariant-loop-bytes
invariant-loop-bytes l = (rs : List Rule) → read (in_transitions rs []) l.initial.cursor.line l.initial.cursor.rest.now ≡ read (in_transitions rs l.transitions.items) l.cursor.line l.cursor.rest.now

abbrev pub decreases-loop-bytes : goal.decreases-loop-bytes
decreases-loop-bytes l = length l.cursor.rest.now
