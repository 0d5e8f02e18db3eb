use Rattle.std.proofs.Common.{◌≡◌, ◌≤◌, ◌∙◌, ap, subst, ℕ, length, arith}
use Rattle.std.proofs.lemmas.List.{take_all, length-take-le}
use Rattle.hs_scheme.specs.Tree.{node, forest}
use Rattle.hs_passes.specs.Order.{rank_of, rank_behind, IsHeadInOrder, IsInOrder, AreInOrder}
use Rattle.hs_passes.proofs.InOrder.{args_more, term_in_order}
use Rattle.hs_passes.proofs.in_order.+is_in_order.Goals as goal
use Rattle.hs_passes.proofs.in_order.+is_in_order.Goals.{then-rank-low, else-rank-low}

pub loop-i-preserved : goal.loop-i-preserved
loop-i-preserved t c =
    let rank = rank_of c.args.parameters.now c.args.ranks.now in
    let h = c.term.inside.head in
    let us = c.deref-arg-items.result.now in
    let i = c.loop-i.i in
    let le : (n : ℕ) → n ≤ c.args.low → n ≤ rank_behind rank h i → n ≤ c.if-rank-low.least =
    λ n a b. elim c.if-rank-low.branch [
      | then-rank-low w ↦ omega (arith, b, c.rank_behind-rank.ensures, w.least-is)
      | else-rank-low w ↦ omega (arith, a, w.least-is)
    ] in
    args_more rank c.args.rule c.args.low h us i c.if-rank-low.least c.arg-item.result c.loop-i-test.true (length-take-le i us (omega (arith, c.loop-i-test.true))) c.arg-item.is le
    c.loop-i.invariant (c.is_in_order.ensures c.if-not-is_in_order.false)

pub returns : goal.returns
returns t c = λ e.
    let rank = rank_of c.args.parameters.now c.args.ranks.now in
    let h = c.term.inside.head in
    let us = c.deref-arg-items.result.now in
    let given : c.len.result ≡ length us = omega (arith, c.len.ensures, c.deref-arg-items.ensures.len) in
    subst (IsInOrder rank c.args.rule c.args.low) (ap (λ vs. node h (forest vs)) c.deref-arg-items.ensures.value ∙ c.term.view_is)
    (term_in_order rank c.args.rule c.args.low h us (subst (IsHeadInOrder rank c.args.rule c.args.low h) given (c.is_head_in_order.ensures c.if-not-is_head_in_order.false))
    (subst (λ vs. AreInOrder rank c.args.rule c.args.low h (forest vs)) (take_all c.loop-i.i us c.loop-i-test.false) c.loop-i.invariant))
