use Rattle.std.proofs.Common.{◌≡◌, sym, ◌∙◌, ap, subst, ℕ, ◌+◌, List, [], ◌∷◌, ◌++◌, length, slice_get, length-append, Some, inl, inr, arith}
use Rattle.hs_scheme.proofs.Lists.{push_cases}
use Rattle.hs_scheme.specs.sorting.Sorting.{SortTree}
use Rattle.hs_sorts.specs.declared.store.Node.{Node}
use Rattle.hs_sorts.specs.Nodes.{Valuation}
use Rattle.hs_sorts.specs.Measures.{IsReading}
use Rattle.hs_sorts.specs.Finding.{AreSorts}
use Rattle.hs_sorts.proofs.finding.read_sorts.Goals as goal

nothing : (nodes : List Node) (sorts : List SortTree) → sorts ≡ [] → AreSorts nodes 0 sorts
nothing nodes sorts empty = record {
  as_long = ap length empty;
  reads = λ v r i k h. let nowhere : slice_get [] i ≡ Some k = ap (λ (ks : List SortTree). slice_get ks i) (sym empty) ∙ h in absurd (cc);
}

more : (nodes : List Node) (count : ℕ) (sorts new : List SortTree) (sort : SortTree) → AreSorts nodes count sorts → ((v : Valuation) → IsReading v nodes → sort ≡ v count) → new ≡ sorts ++ sort ∷ [] → AreSorts nodes (count + 1) new
more nodes count sorts new sort so_far next is = record {
  as_long = ap length is ∙ (length-append sorts (sort ∷ []) ∙ ap (λ n. n + 1) so_far.as_long);
  reads = λ v r i k h. elim (push_cases sorts sort k i (ap (λ (ks : List SortTree). slice_get ks i) (sym is) ∙ h)) [
    | inl was ↦ so_far.reads v r i k was
    | inr (last, same) ↦ sym same ∙ (next v r ∙ ap (λ (j : ℕ). v j) (sym (last ∙ so_far.as_long)))
  ];
}

pub loop-node-init : goal.loop-node-init
loop-node-init c = record {
  sorts = nothing c.args.store.now c.in_ok-sorts.sorts.items c.in_ok-sorts.ensures.items;
  room = omega (arith, c.in_ok-sorts.ensures.capacity);
}

pub loop-node-preserved : goal.loop-node-preserved
loop-node-preserved c = record {
  sorts = more c.args.store.now c.loop-node.node c.loop-node.sorts.items c.push_reserved.new.self.items c.in_ok-read_sort.field-0 c.loop-node.invariant.sorts c.in_ok-read_sort.ensures c.push_reserved.ensures.items;
  room = omega (arith, c.push_reserved.ensures.capacity, c.loop-node.invariant.room);
}

pub push_reserved-requires : goal.push_reserved-requires
push_reserved-requires c = omega (arith, c.loop-node.sorts.ok, c.loop-node.invariant.sorts.as_long, c.loop-node.invariant.room, c.loop-node-test.true)

pub returns : goal.returns
returns c =
    let all : c.loop-node.node ≡ c.args.count = omega (arith, c.loop-node-test.false) in
    subst (λ (n : ℕ). AreSorts c.args.store.now n c.loop-node.sorts.items) all c.loop-node.invariant.sorts
