-- the works under the tickets so far are ended
use Rattle.std.proofs.Common.{◌≡◌, ℕ, ◌≤◌, None}
use Rattle.hs_core.specs.Core.{state_of}
use Rattle.hs_core.proofs.Selected.{EndedTo}
use Rattle.hs_core.proofs.selecting.end_all.Given as goal

abbrev pub invariant-loop-ticket : goal.invariant-loop-ticket
invariant-loop-ticket l = record {
  ended : EndedTo l.worker l.closed l.fn.core l.core l.ticket;
  beyond : (t : ℕ) → l.ticket-end ≤ t → (state_of l.fn.core).flight t ≡ None;
}
