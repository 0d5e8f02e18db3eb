-- The pairs found, apart by kind, and the flow pairs of one parameter.
--     flows_in, heads_in          the pairs of each kind, in the order in which they stand
--     of_number counts k flows    those of the parameter of number k
--     HasSorted row old new       the pairs of the row stand at the end, in ascending order
use Rattle.std.specs.Prelude.{◌≡◌, ℕ, List, [], ◌∷◌, ◌++◌, filter, nat_eq}
use Rattle.std.specs.List.Sorted.{IsPermutation, IsSorted}
use Rattle.hs_scheme.specs.declared.flow.FlowPair.{FlowPair}
use Rattle.hs_scheme.specs.declared.flow.HeadPair.{HeadPair}
use Rattle.hs_scheme.specs.declared.flow.Pair.{Pair}
use Rattle.hs_scheme.specs.declared.flow.Pair.TheVariants.{OfFlow, OfHead}
use Rattle.hs_scheme.specs.flow.Flow.{flow_cmp}
use Rattle.hs_scheme.specs.flow.FlowRows.{number_of}

abbrev pub flows_in : List Pair → List FlowPair
flows_in [] = []
flows_in (OfFlow f ∷ ps) = f ∷ flows_in ps
flows_in (OfHead h ∷ ps) = flows_in ps

abbrev pub heads_in : List Pair → List HeadPair
heads_in [] = []
heads_in (OfFlow f ∷ ps) = heads_in ps
heads_in (OfHead h ∷ ps) = h ∷ heads_in ps

abbrev pub of_number : List ℕ → ℕ → List FlowPair → List FlowPair
of_number counts k flows = filter (λ f. nat_eq (number_of counts f) k) flows

pub record HasSorted (row old new : List FlowPair) : Type 0 where
  pub added : List FlowPair
  pub is : new ≡ old ++ added
  pub permutation : IsPermutation row added
  pub sorted : IsSorted flow_cmp added
