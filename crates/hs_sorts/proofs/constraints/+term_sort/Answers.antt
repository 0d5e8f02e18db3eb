use Rattle.std.proofs.Common.{◌≡◌, refl, sym, ◌∙◌, ap, subst, ℕ, List, length, vec_len, arith, ◌+◌, ◌*◌, ◌<◌}
use Rattle.hs_scheme.specs.declared.term.Head.{Head}
use Rattle.hs_scheme.specs.Tree.{Tree, node, forest, height}
use Rattle.hs_sorts.specs.declared.store.Node.{Node}
use Rattle.hs_sorts.specs.Constraints.{node_of, NodesBelow, IsNodeFor, AddsNode, TakesArgument, HasSortAt}
use Rattle.hs_sorts.proofs.Typing.{height_at, nodes_wider, all_below_at, given_all, no_argument, not_taken, one_more, parts_below, adds_term, refutes_term, leaf_node, no_items}
use Rattle.hs_sorts.proofs.constraints.+term_sort.Goals as goal
use Rattle.hs_sorts.proofs.constraints.+term_sort.Goals.{then-is_empty, else-is_empty+in_ok-node+in-Some}

pub returns : goal.returns
returns t c =
    let at : Head → ℕ = node_of c.args.heads.now.rules c.args.heads.now.first in
    let ts = c.deref-arg-items.result.now in
    let whole : node c.term.inside.head (forest ts) ≡ c.args.term.now = ap (λ (us : List (Tree Head)). node c.term.inside.head (forest us)) c.deref-arg-items.ensures.value ∙ c.term.view_is in
    let parts = parts_below at c.args.term.now c.term.inside.head ts c.node_of-sort.result whole c.node_of-sort.ensures (length c.args.store.now) c.requires.nodes in
    adds_term at c.args.term.now c.term.inside.head ts c.node_of-sort.result whole c.node_of-sort.ensures c.args.store.now c.loop-arg.store c.loop-arg.sort
    (given_all at c.args.store.now c.node_of-sort.result ts parts.0 parts.1 c.loop-arg.store c.loop-arg.arg-index c.loop-arg.sort c.loop-arg-test.false c.loop-arg.invariant)

pub returns-in_default : goal.returns-in_default
returns-in_default t c =
    let at : Head → ℕ = node_of c.args.heads.now.rules c.args.heads.now.first in
    let ts = c.deref-arg-items.result.now in
    let whole : node c.term.inside.head (forest ts) ≡ c.args.term.now = ap (λ (us : List (Tree Head)). node c.term.inside.head (forest us)) c.deref-arg-items.ensures.value ∙ c.term.view_is in
    let parts = parts_below at c.args.term.now c.term.inside.head ts c.node_of-sort.result whole c.node_of-sort.ensures (length c.args.store.now) c.requires.nodes in
    refutes_term at c.args.term.now c.term.inside.head ts c.node_of-sort.result whole c.node_of-sort.ensures c.args.store.now
    (no_argument at c.args.store.now c.node_of-sort.result ts parts.0 parts.1 c.loop-arg.store c.loop-arg.store c.loop-arg.store c.loop-arg.arg-index c.loop-arg.sort 0 0 c.arg-item.result
    c.loop-arg-test.true c.arg-item.is c.loop-arg.invariant
    (subst (IsNodeFor c.loop-arg.store c.term_sort.new.store (HasSortAt at c.arg-item.result)) c.in_default.is c.in_ok-node.ensures))

pub returns-in_default-2 : goal.returns-in_default-2
returns-in_default-2 t c =
    let at : Head → ℕ = node_of c.args.heads.now.rules c.args.heads.now.first in
    let ts = c.deref-arg-items.result.now in
    let whole : node c.term.inside.head (forest ts) ≡ c.args.term.now = ap (λ (us : List (Tree Head)). node c.term.inside.head (forest us)) c.deref-arg-items.ensures.value ∙ c.term.view_is in
    let parts = parts_below at c.args.term.now c.term.inside.head ts c.node_of-sort.result whole c.node_of-sort.ensures (length c.args.store.now) c.requires.nodes in
    let below : NodesBelow at (length c.args.store.now) c.arg-item.result =
    subst (NodesBelow at (length c.args.store.now)) (sym c.arg-item.is) (all_below_at at (length c.args.store.now) c.loop-arg.arg-index ts c.arg-item.result c.loop-arg-test.true parts.1) in
    let wider : NodesBelow at (length c.loop-arg.store) c.arg-item.result = nodes_wider at (length c.args.store.now) (length c.loop-arg.store) c.arg-item.result c.loop-arg.invariant.longer below in
    let taken : AddsNode c.loop-arg.store c.if-is_empty.store c.if-is_empty.argument (HasSortAt at c.arg-item.result) = elim c.if-is_empty.branch [
      | then-is_empty w ↦
          subst (λ (j : ℕ). AddsNode c.loop-arg.store c.if-is_empty.store j (HasSortAt at c.arg-item.result)) (sym w.argument-is)
          (subst (λ (xs : List Node). AddsNode c.loop-arg.store xs w.node_of-argument.result (HasSortAt at c.arg-item.result)) (sym w.store-is)
          (leaf_node at c.loop-arg.store c.arg-item.result c.arg.inside.head c.arg.inside.args.items w.node_of-argument.result c.loop-arg.invariant.few c.arg.view_is
          (no_items c.arg.inside.args.items (vec_len c.arg.inside.args) c.is_empty.result (omega (arith, c.arg.inside.args.ok.0)) c.is_empty.ensures w.if-is_empty.true) w.node_of-argument.ensures wider))
      | else-is_empty+in_ok-node+in-Some w ↦
          subst (λ (j : ℕ). AddsNode c.loop-arg.store c.if-is_empty.store j (HasSortAt at c.arg-item.result)) (sym w.argument-is)
          (subst (λ (xs : List Node). AddsNode c.loop-arg.store xs w.in-Some.node (HasSortAt at c.arg-item.result)) (sym w.store-is)
          (subst (IsNodeFor c.loop-arg.store w.term_sort.new.store (HasSortAt at c.arg-item.result)) w.in-Some.is w.in_ok-node.ensures))
    ] in
    refutes_term at c.args.term.now c.term.inside.head ts c.node_of-sort.result whole c.node_of-sort.ensures c.args.store.now
    (not_taken at c.args.store.now c.node_of-sort.result ts parts.0 parts.1 c.loop-arg.store c.if-is_empty.store c.if-is_empty.store c.loop-arg.arg-index c.loop-arg.sort c.if-is_empty.argument 0 c.arg-item.result
    c.loop-arg-test.true c.arg-item.is c.loop-arg.invariant taken
    (subst (IsNodeFor c.if-is_empty.store c.apply.new.store (TakesArgument c.loop-arg.sort c.if-is_empty.argument)) c.in_default-2.is c.in_ok-rest.ensures))

pub loop-arg-preserved : goal.loop-arg-preserved
loop-arg-preserved t c =
    let at : Head → ℕ = node_of c.args.heads.now.rules c.args.heads.now.first in
    let ts = c.deref-arg-items.result.now in
    let whole : node c.term.inside.head (forest ts) ≡ c.args.term.now = ap (λ (us : List (Tree Head)). node c.term.inside.head (forest us)) c.deref-arg-items.ensures.value ∙ c.term.view_is in
    let parts = parts_below at c.args.term.now c.term.inside.head ts c.node_of-sort.result whole c.node_of-sort.ensures (length c.args.store.now) c.requires.nodes in
    let below : NodesBelow at (length c.args.store.now) c.arg-item.result =
    subst (NodesBelow at (length c.args.store.now)) (sym c.arg-item.is) (all_below_at at (length c.args.store.now) c.loop-arg.arg-index ts c.arg-item.result c.loop-arg-test.true parts.1) in
    let wider : NodesBelow at (length c.loop-arg.store) c.arg-item.result = nodes_wider at (length c.args.store.now) (length c.loop-arg.store) c.arg-item.result c.loop-arg.invariant.longer below in
    let taken : AddsNode c.loop-arg.store c.if-is_empty.store c.if-is_empty.argument (HasSortAt at c.arg-item.result) = elim c.if-is_empty.branch [
      | then-is_empty w ↦
          subst (λ (j : ℕ). AddsNode c.loop-arg.store c.if-is_empty.store j (HasSortAt at c.arg-item.result)) (sym w.argument-is)
          (subst (λ (xs : List Node). AddsNode c.loop-arg.store xs w.node_of-argument.result (HasSortAt at c.arg-item.result)) (sym w.store-is)
          (leaf_node at c.loop-arg.store c.arg-item.result c.arg.inside.head c.arg.inside.args.items w.node_of-argument.result c.loop-arg.invariant.few c.arg.view_is
          (no_items c.arg.inside.args.items (vec_len c.arg.inside.args) c.is_empty.result (omega (arith, c.arg.inside.args.ok.0)) c.is_empty.ensures w.if-is_empty.true) w.node_of-argument.ensures wider))
      | else-is_empty+in_ok-node+in-Some w ↦
          subst (λ (j : ℕ). AddsNode c.loop-arg.store c.if-is_empty.store j (HasSortAt at c.arg-item.result)) (sym w.argument-is)
          (subst (λ (xs : List Node). AddsNode c.loop-arg.store xs w.in-Some.node (HasSortAt at c.arg-item.result)) (sym w.store-is)
          (subst (IsNodeFor c.loop-arg.store w.term_sort.new.store (HasSortAt at c.arg-item.result)) w.in-Some.is w.in_ok-node.ensures))
    ] in
    one_more at c.args.store.now c.node_of-sort.result ts parts.0 parts.1 c.loop-arg.store c.if-is_empty.store c.apply.new.store c.loop-arg.arg-index c.loop-arg.sort c.if-is_empty.argument c.in-Some-2.rest c.arg-item.result
    c.loop-arg-test.true c.arg-item.is c.loop-arg.invariant taken
    (subst (IsNodeFor c.if-is_empty.store c.apply.new.store (TakesArgument c.loop-arg.sort c.if-is_empty.argument)) c.in-Some-2.is c.in_ok-rest.ensures)

pub apply-requires-clause-argument : goal.apply-requires-clause-argument
apply-requires-clause-argument t c =
    let at : Head → ℕ = node_of c.args.heads.now.rules c.args.heads.now.first in
    let ts = c.deref-arg-items.result.now in
    let whole : node c.term.inside.head (forest ts) ≡ c.args.term.now = ap (λ (us : List (Tree Head)). node c.term.inside.head (forest us)) c.deref-arg-items.ensures.value ∙ c.term.view_is in
    let parts = parts_below at c.args.term.now c.term.inside.head ts c.node_of-sort.result whole c.node_of-sort.ensures (length c.args.store.now) c.requires.nodes in
    let below : NodesBelow at (length c.args.store.now) c.arg-item.result =
    subst (NodesBelow at (length c.args.store.now)) (sym c.arg-item.is) (all_below_at at (length c.args.store.now) c.loop-arg.arg-index ts c.arg-item.result c.loop-arg-test.true parts.1) in
    let wider : NodesBelow at (length c.loop-arg.store) c.arg-item.result = nodes_wider at (length c.args.store.now) (length c.loop-arg.store) c.arg-item.result c.loop-arg.invariant.longer below in
    let taken : AddsNode c.loop-arg.store c.if-is_empty.store c.if-is_empty.argument (HasSortAt at c.arg-item.result) = elim c.if-is_empty.branch [
      | then-is_empty w ↦
          subst (λ (j : ℕ). AddsNode c.loop-arg.store c.if-is_empty.store j (HasSortAt at c.arg-item.result)) (sym w.argument-is)
          (subst (λ (xs : List Node). AddsNode c.loop-arg.store xs w.node_of-argument.result (HasSortAt at c.arg-item.result)) (sym w.store-is)
          (leaf_node at c.loop-arg.store c.arg-item.result c.arg.inside.head c.arg.inside.args.items w.node_of-argument.result c.loop-arg.invariant.few c.arg.view_is
          (no_items c.arg.inside.args.items (vec_len c.arg.inside.args) c.is_empty.result (omega (arith, c.arg.inside.args.ok.0)) c.is_empty.ensures w.if-is_empty.true) w.node_of-argument.ensures wider))
      | else-is_empty+in_ok-node+in-Some w ↦
          subst (λ (j : ℕ). AddsNode c.loop-arg.store c.if-is_empty.store j (HasSortAt at c.arg-item.result)) (sym w.argument-is)
          (subst (λ (xs : List Node). AddsNode c.loop-arg.store xs w.in-Some.node (HasSortAt at c.arg-item.result)) (sym w.store-is)
          (subst (IsNodeFor c.loop-arg.store w.term_sort.new.store (HasSortAt at c.arg-item.result)) w.in-Some.is w.in_ok-node.ensures))
    ] in
    taken.within

pub node_of-argument-requires : goal.node_of-argument-requires
node_of-argument-requires t c =
    let at : Head → ℕ = node_of c.args.heads.now.rules c.args.heads.now.first in
    let ts = c.deref-arg-items.result.now in
    let whole : node c.term.inside.head (forest ts) ≡ c.args.term.now = ap (λ (us : List (Tree Head)). node c.term.inside.head (forest us)) c.deref-arg-items.ensures.value ∙ c.term.view_is in
    let parts = parts_below at c.args.term.now c.term.inside.head ts c.node_of-sort.result whole c.node_of-sort.ensures (length c.args.store.now) c.requires.nodes in
    let below : NodesBelow at (length c.args.store.now) c.arg-item.result =
    subst (NodesBelow at (length c.args.store.now)) (sym c.arg-item.is) (all_below_at at (length c.args.store.now) c.loop-arg.arg-index ts c.arg-item.result c.loop-arg-test.true parts.1) in
    let wider : NodesBelow at (length c.loop-arg.store) c.arg-item.result = nodes_wider at (length c.args.store.now) (length c.loop-arg.store) c.arg-item.result c.loop-arg.invariant.longer below in
    let low = (parts_below at c.arg-item.result c.arg.inside.head c.arg.inside.args.items (at c.arg.inside.head) c.arg.view_is refl (length c.loop-arg.store) wider).0 in
    omega (arith, low, c.loop-arg.invariant.few)

pub term_sort-requires : goal.term_sort-requires
term_sort-requires t c =
    let at : Head → ℕ = node_of c.args.heads.now.rules c.args.heads.now.first in
    let ts = c.deref-arg-items.result.now in
    let whole : node c.term.inside.head (forest ts) ≡ c.args.term.now = ap (λ (us : List (Tree Head)). node c.term.inside.head (forest us)) c.deref-arg-items.ensures.value ∙ c.term.view_is in
    let parts = parts_below at c.args.term.now c.term.inside.head ts c.node_of-sort.result whole c.node_of-sort.ensures (length c.args.store.now) c.requires.nodes in
    let below : NodesBelow at (length c.args.store.now) c.arg-item.result =
    subst (NodesBelow at (length c.args.store.now)) (sym c.arg-item.is) (all_below_at at (length c.args.store.now) c.loop-arg.arg-index ts c.arg-item.result c.loop-arg-test.true parts.1) in
    let lower = height_at c.loop-arg.arg-index ts c.arg-item.result c.loop-arg-test.true in
    let smaller : 1 * (height c.arg-item.result + 1) + 0 < t = omega (arith, c.decreases, lower, ap height c.arg-item.is, ap height whole) in
    (smaller, (nodes_wider at (length c.args.store.now) (length c.loop-arg.store) c.arg-item.result c.loop-arg.invariant.longer below, c.loop-arg.invariant.few))
