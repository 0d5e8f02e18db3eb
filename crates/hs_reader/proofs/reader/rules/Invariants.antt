use Rattle.std.proofs.Common.{◌≡◌, [], length}
use Rattle.hs_reader.specs.ReadingStages.{in_rules, read}
use Rattle.hs_reader.proofs.reader.rules.Given as goal

abbrev pub invariant-loop-bytes : goal.invariant-loop-bytes
invariant-loop-bytes l = read (in_rules []) l.initial.cursor.line l.initial.cursor.rest.now ≡ read (in_rules l.rules.items) l.cursor.line l.cursor.rest.now

abbrev pub decreases-loop-bytes : goal.decreases-loop-bytes
decreases-loop-bytes l = length l.cursor.rest.now
