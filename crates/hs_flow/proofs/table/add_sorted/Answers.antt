use Rattle.std.proofs.Common.{◌≡◌, ◌∙◌, ap, subst, List, ◌++◌}
use Rattle.std.specs.List.Sorted.{IsPermutation}
use Rattle.hs_scheme.specs.declared.flow.FlowPair.{FlowPair}
use Rattle.hs_flow.proofs.table.add_sorted.Goals as goal

pub returns : goal.returns
returns c = record {
  added = c.sort_unstable.new.self.items;
  is = c.in_ok-extend_from_slice-2.ensures.items ∙ ap (λ (ps : List FlowPair). c.args.pairs.now.items ++ ps) c.as_slice.ensures.value;
  permutation = subst (λ (ps : List FlowPair). IsPermutation ps c.sort_unstable.new.self.items)
      (c.in_ok-extend_from_slice.ensures.items ∙ ap (λ (ps : List FlowPair). ps ++ c.args.row.now) c.clear.ensures.items) c.sort_unstable.ensures.permutation;
  sorted = c.sort_unstable.ensures.sorted;
}
