-- the pairs so far
use Rattle.std.proofs.Common.{◌≡◌, ℕ, List, [], length}
use Rattle.hs_table.specs.Entries.{EntryData}
use Rattle.hs_cert.specs.Front.{HasBegun}
use Rattle.hs_cert.proofs.numbered.read_pairs.Given as goal

abbrev pub invariant-loop-number : goal.invariant-loop-number
invariant-loop-number l =
    ((bytes : List ℕ) (table : List EntryData) → length table ≡ l.heading.entries → HasBegun l.problem bytes l.heading table [] l.initial.lines.rest.now
    → HasBegun l.problem bytes l.heading table l.certificate.void l.lines.rest.now)
    × (length l.certificate.void ≡ l.number)
    × (l.certificate.table ≡ l.fn.certificate.table)
