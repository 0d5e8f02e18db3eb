-- the types so far, each with a comma behind it
use Rattle.std.proofs.Common.{◌+◌, ◌*◌, length}
use Rattle.hs_cert.proofs.Reading.{Listed}
use Rattle.hs_cert.proofs.types.+types.Given as goal

abbrev pub decreases-read_type : goal.decreases-read_type
decreases-read_type l = 2 * l.limit

abbrev pub decreases-read_members : goal.decreases-read_members
decreases-read_members l = 2 * l.limit + 1

abbrev pub invariant-read_members-members : goal.invariant-read_members-members
invariant-read_members-members l = Listed l.states l.limit l.initial.ahead.bytes.now l.set.items l.ahead.bytes.now

abbrev pub decreases-read_members-members : goal.decreases-read_members-members
decreases-read_members-members l = length l.ahead.bytes.now
