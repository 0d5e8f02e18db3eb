-- Where the pairs of each parameter stand among all pairs of a flow.
--     number_of counts pair          the number of the pair's parameter
--     AreStarts counts pairs starts  for each number, how many pairs have a lesser one; at the end, how many pairs there are
use Rattle.std.specs.Prelude.{◌≡◌, ℕ, ◌+◌, ◌<◌, ◌≤◌, List, All, length, sum, slice_index, slice_index_or}
use Rattle.hs_scheme.specs.declared.flow.FlowPair.{FlowPair}
use Rattle.hs_scheme.specs.sorting.Parameters.{IsParameter, parameter_of}

abbrev pub number_of : List ℕ → FlowPair → ℕ
number_of counts pair = parameter_of counts pair.rule pair.param

-- the pairs are of parameters that the rules have
abbrev pub AreOfParameters : List ℕ → List FlowPair → Type 0
AreOfParameters counts pairs = All (λ (p : FlowPair). IsParameter counts p.rule p.param) pairs

-- each start parts the pairs with a lesser number from the others; those of the first `taken` pairs are there
pub record StartsSoFar (counts : List ℕ) (pairs : List FlowPair) (taken : ℕ) (starts : List ℕ) : Type 0 where
  pub within : (k : ℕ) → k < length starts → slice_index starts k ≤ taken
  pub low : (k i : ℕ) (d : FlowPair) → k < length starts → i < slice_index starts k → number_of counts (slice_index_or pairs i d) < k
  pub high : (k i : ℕ) (d : FlowPair) → k < length starts → slice_index starts k ≤ i → i < length pairs → k ≤ number_of counts (slice_index_or pairs i d)
  pub done : (i : ℕ) (d : FlowPair) → i < taken → number_of counts (slice_index_or pairs i d) < length starts
  pub few : length starts ≤ sum counts + 1

pub record AreStarts (counts : List ℕ) (pairs : List FlowPair) (starts : List ℕ) : Type 0 where
  pub parameters : AreOfParameters counts pairs
  pub long : length starts ≡ sum counts + 1
  pub parted : StartsSoFar counts pairs (length pairs) starts
