-- the pairs of the parameters so far, in ascending order
use Rattle.std.specs.List.Sorted.{IsPermutation}
use Rattle.hs_scheme.specs.flow.Flow.{IsAscending, flow_cmp}
use Rattle.hs_flow.specs.Tables.{flows_in}
use Rattle.hs_flow.proofs.ParameterTables.{below_number}
use Rattle.hs_flow.proofs.table.ascending.Given as goal

abbrev pub invariant-loop-number : goal.invariant-loop-number
invariant-loop-number l = record {
  permutation : IsPermutation (below_number l.params l.number (flows_in l.fn.found.items)) l.pairs.items;
  ascending : IsAscending flow_cmp l.pairs.items;
}
