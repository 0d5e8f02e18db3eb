-- the pairs so far are in the lists of their parameters
use Rattle.std.proofs.Common.{◌≡◌, ℕ, length, sum, take}
use Rattle.hs_flow.specs.Lists.{list_of}
use Rattle.hs_flow.specs.Tables.{flows_in, of_number}
use Rattle.hs_flow.proofs.table.by_parameter.Given as goal

abbrev pub invariant-loop-pair : goal.invariant-loop-pair
invariant-loop-pair l = record {
  len : length l.lists ≡ sum l.params;
  lists : (k : ℕ) → list_of l.lists k ≡ of_number l.params k (flows_in (take l.pair-index l.found));
}
