use Rattle.std.proofs.Common.{◌≡◌, ◌≤◌, ◌+◌, length}
use Rattle.hs_reader.specs.Reading.{tokens}
use Rattle.hs_reader.proofs.cursor.skip_gaps.Given as goal

abbrev pub invariant-loop-line_after : goal.invariant-loop-line_after
invariant-loop-line_after l = (tokens l.line l.bytes ≡ tokens l.at l.rest) × (l.at + length l.rest ≤ l.line + length l.bytes) × (length l.rest ≤ length l.bytes)

abbrev pub decreases-loop-line_after : goal.decreases-loop-line_after
decreases-loop-line_after l = length l.rest
