use Rattle.std.proofs.Common.{◌≡◌, ◌≤◌, ◌+◌, length}
use Rattle.hs_reader.specs.Reading.{comment_rest}
use Rattle.hs_reader.proofs.cursor.comment_rest.Given as goal

abbrev pub invariant-loop-rest : goal.invariant-loop-rest
invariant-loop-rest l = (comment_rest l.at l.rest ≡ comment_rest l.line l.bytes) × (l.at + length l.rest ≤ l.line + length l.bytes) × (length l.rest ≤ length l.bytes)

abbrev pub decreases-loop-rest : goal.decreases-loop-rest
decreases-loop-rest l = length l.rest
