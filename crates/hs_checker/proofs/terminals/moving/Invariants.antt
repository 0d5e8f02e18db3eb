-- the states marked so far have transitions
use Rattle.std.proofs.Common.{◌≡◌, ℕ, length, slice_get, Some, true}
use Rattle.hs_table.specs.Follows.{HasMove}
use Rattle.hs_checker.proofs.terminals.moving.Given as goal

abbrev pub invariant-loop-place : goal.invariant-loop-place
invariant-loop-place l = record {
  long : length l.marks.items ≡ l.automaton.states;
  marked : (q : ℕ) → slice_get l.marks.items q ≡ Some true → HasMove l.automaton.transitions l.terminal l.most q;
}
