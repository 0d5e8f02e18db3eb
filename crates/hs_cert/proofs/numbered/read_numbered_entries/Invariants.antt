-- the entries so far
use Rattle.std.proofs.Common.{◌≡◌, ℕ, List, [], length}
use Rattle.hs_cert.specs.Front.{HasHead, HasBegun}
use Rattle.hs_cert.proofs.numbered.read_numbered_entries.Given as goal

abbrev pub invariant-loop-number : goal.invariant-loop-number
invariant-loop-number l =
    ((bytes : List ℕ) → HasHead bytes l.fn.heading l.initial.lines.rest.now → HasBegun l.problem bytes l.fn.heading l.certificate.table [] l.lines.rest.now)
    × (length l.certificate.table ≡ l.number)
    × (l.certificate.void ≡ l.fn.certificate.void)
