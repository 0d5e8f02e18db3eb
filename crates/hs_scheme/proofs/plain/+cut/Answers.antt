use Rattle.std.proofs.Common.{◌≡◌, sym, ◌∙◌, ap, subst, ℕ, ◌-◌, ◌≤◌, map, Some, None, arith}
use Rattle.std.specs.Result.{IfOk}
use Rattle.std.proofs.lemmas.List.{take_all}
use Rattle.hs_scheme.specs.Tree.{node, forest}
use Rattle.hs_scheme.specs.acceptance.Cut.{CutTree, cut, unfolded}
use Rattle.hs_scheme.proofs.PlainLemmas.{cut-Var, cut-Nt_none, cut-Nt_some, cut-Tm}
use Rattle.hs_scheme.proofs.plain.+cut.Goals as goal
use Rattle.hs_scheme.proofs.plain.+cut.Goals.{then-n-gt0+in-Var, then-n-gt0+in-Nt+in_ok-body-in-Nt+in_default, then-n-gt0+in-Tm+else-loop-arg-test, else-n-gt0}

zero_from : {n : ℕ} → n ≤ 0 → 0 ≡ n
zero_from h = omega arith

pub returns-in-Some : goal.returns-in-Some
returns-in-Some t c =
    let goes = ap (unfolded c.args.rules.now c.in-Nt.number) (sym c.as_slice.ensures.value) ∙ (sym c.in_ok-body-in-Nt.ensures ∙ c.in-Some.is) in
    let e = cut-Nt_some c.args.rules.now c.args.n c.args.term.now c.term.inside.head c.term.inside.args.items c.term.view_is c.in-Nt.number c.in-Some.body c.in-Nt.is c.if-n-gt0.true goes in
    subst (λ (z : CutTree). IfOk c.cut.result (λ tree. tree ≡ z)) e c.cut.ensures

pub returns : goal.returns
returns t c = elim c.if-n-gt0.branch [
  | then-n-gt0+in-Var w ↦ (λ i. node (w.terminal-is i) (forest (w.children-is i).items)) ∙ (ap (λ xs. node None (forest xs)) c.new-children.ensures.items
      ∙ cut-Var c.args.rules.now c.args.n c.args.term.now c.term.inside.head c.term.inside.args.items c.term.view_is _ w.in-Var.is)
  | then-n-gt0+in-Nt+in_ok-body-in-Nt+in_default w ↦ (λ i. node (w.terminal-is i) (forest (w.children-is i).items)) ∙ (ap (λ xs. node None (forest xs)) c.new-children.ensures.items
      ∙ cut-Nt_none c.args.rules.now c.args.n c.args.term.now c.term.inside.head c.term.inside.args.items c.term.view_is w.in-Nt.number w.in-Nt.is
      (ap (unfolded c.args.rules.now w.in-Nt.number) (sym w.as_slice.ensures.value) ∙ (sym w.in_ok-body-in-Nt.ensures ∙ w.in_default.is)))
  | then-n-gt0+in-Tm+else-loop-arg-test w ↦ (λ i. node (w.terminal-is i) (forest (w.children-is i).items))
      ∙ (ap (λ xs. node (Some w.in-Tm.symbol) (forest xs)) (w.loop-arg.invariant
      ∙ ap (map (cut c.args.rules.now (c.args.n - 1))) (take_all w.loop-arg.arg-index w.deref-arg-items.result.now w.loop-arg-test.false ∙ w.deref-arg-items.ensures.value))
      ∙ cut-Tm c.args.rules.now c.args.n c.args.term.now c.term.inside.head c.term.inside.args.items c.term.view_is w.in-Tm.symbol w.in-Tm.is w.if-n-gt0.true)
  | else-n-gt0 w ↦ (λ i. node (w.terminal-is i) (forest (w.children-is i).items)) ∙ (ap (λ xs. node None (forest xs)) c.new-children.ensures.items
      ∙ ap (λ n. cut c.args.rules.now n c.args.term.now) (zero_from w.if-n-gt0.false))
]
