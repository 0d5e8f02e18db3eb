-- so many lines stand in front
use Rattle.std.proofs.Common.{◌≡◌, ◌≤◌, ℕ, List, length}
use Rattle.hs_cert.specs.Front.{Cut}
use Rattle.hs_cert.proofs.lines.line_at.Given as goal

abbrev pub invariant-loop : goal.invariant-loop
invariant-loop l = (before : List (List ℕ)) × (length before ≡ l.counter) × (l.counter ≤ l.number) × Cut l.bytes before l.lines.rest.now
