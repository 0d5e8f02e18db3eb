-- those so far have the same places
use Rattle.std.proofs.Common.{◌≡◌, ℕ, ◌<◌, ◌≤◌, take, slice_get, Some}
use Rattle.hs_rules.specs.Order.{chosen_places}
use Rattle.hs_rules.specs.Joins.{PartialData}
use Rattle.hs_rules.proofs.extending.run_end.Given as goal

abbrev pub invariant-loop-end : goal.invariant-loop-end
invariant-loop-end l = record {
  more : l.start < l.end;
  same : (j : ℕ) (x y : PartialData) → l.start ≤ j → j < l.end → slice_get l.partials l.start ≡ Some x → slice_get l.partials j ≡ Some y → take l.at (chosen_places y.args) ≡ take l.at (chosen_places x.args);
}
