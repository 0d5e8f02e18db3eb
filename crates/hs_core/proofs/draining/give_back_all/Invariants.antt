-- the tickets so far are free
use Rattle.std.proofs.Common.{◌≡◌, ℕ, ◌<◌, ◌≤◌, None}
use Rattle.hs_core.specs.Core.{state_of}
use Rattle.hs_core.proofs.Moving.{GoesBackFrom}
use Rattle.hs_core.proofs.draining.give_back_all.Given as goal

abbrev pub invariant-loop-ticket : goal.invariant-loop-ticket
invariant-loop-ticket l = record {
  goes : GoesBackFrom l.fn.core l.core;
  free : (t : ℕ) → t < l.ticket → (state_of l.core).flight t ≡ None;
  beyond : (t : ℕ) → l.ticket-end ≤ t → (state_of l.core).flight t ≡ None;
}
