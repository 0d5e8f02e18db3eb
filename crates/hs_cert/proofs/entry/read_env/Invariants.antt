-- the sets so far
use Rattle.std.proofs.Common.{◌≡◌, length}
use Rattle.hs_cert.proofs.Environments.{SetsRead}
use Rattle.hs_cert.proofs.entry.read_env.Given as goal

abbrev pub invariant-loop-number : goal.invariant-loop-number
invariant-loop-number l = SetsRead l.states l.params l.initial.ahead.bytes.now l.env.items l.ahead.bytes.now × (length l.env.items ≡ l.number)
