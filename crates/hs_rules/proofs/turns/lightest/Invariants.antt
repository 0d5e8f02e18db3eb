-- the slot that was chosen is left; where none was, those so far are done
use Rattle.std.proofs.Common.{◌≡◌, ℕ, ◌<◌, Some, None, Contains}
use Rattle.hs_rules.specs.declared.turns.Turn.{Turn}
use Rattle.hs_rules.specs.Turns.{IsPlaceAmong, IsTurn}
use Rattle.hs_rules.proofs.turns.lightest.Given as goal

abbrev pub invariant-loop-number : goal.invariant-loop-number
invariant-loop-number l = record {
  place : IsPlaceAmong l.done l.number l.at;
  some : (t : Turn) → l.next ≡ Some t → IsTurn l.slots l.done t;
  none : l.next ≡ None → (n : ℕ) → n < l.number → Contains l.done n;
}
