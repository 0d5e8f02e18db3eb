use Rattle.std.proofs.Common.{◌≡◌, ap, sym, ◌∙◌, slice_get, rules}
use Rattle.hs_scheme.specs.Tree.{node, forest}
use Rattle.hs_scheme.proofs.Lists.{got_some, got_none}
use Rattle.hs_reduce.specs.Graph.{term_at, terms_at, head_of}
use Rattle.hs_reduce.proofs.ReplacementLemmas.{whole, parameter, other_head}
use Rattle.hs_reduce.proofs.replacement.front_of.Goals as goal
use Rattle.hs_reduce.proofs.replacement.front_of.Goals.{in-Var+in_default-get, in_default}

pub returns-in-Some-clause-term : goal.returns-in-Some-clause-term
returns-in-Some-clause-term c =
    let place = c.in-Some.place.now in
    let at = got_some c.args.with.now c.in-Var.parameter place c.in-Some.ensures.lookup.0 c.in-Some.ensures.lookup.1 in
    let copied : c.in_ok-to_vec.field-0.items ≡ c.arguments.result.now = search rules in
    (λ i. node (c.head.ensures i) (forest (terms_at c.args.graph.now (copied i))))
    ∙ ((λ i. node (head_of (term_at c.args.graph.now place)) (forest (c.arguments.ensures.terms i)))
    ∙ (whole (term_at c.args.graph.now place) ∙ parameter c.args.graph.now c.args.with.now c.args.head c.in-Var.parameter place c.in-Var.is at))

pub returns-clause-term : goal.returns-clause-term
returns-clause-term c = elim c.match-head.branch [
  | in-Var+in_default-get w ↦ (λ i. node ((w.head-is ∙ sym w.in-Var.is) i) (forest (terms_at c.args.graph.now (c.new.ensures.items i))))
      ∙ other_head c.args.graph.now c.args.with.now c.args.head
      (λ j e. let same : w.in-Var.parameter ≡ j = let h = sym w.in-Var.is ∙ e in (cc) in
      ap (λ k. slice_get c.args.with.now k) (sym same) ∙ got_none c.args.with.now w.in-Var.parameter w.in_default-get.ensures.lookup.0)
  | in_default w ↦ (λ i. node (w.head-is i) (forest (terms_at c.args.graph.now (c.new.ensures.items i))))
      ∙ other_head c.args.graph.now c.args.with.now c.args.head (λ j e. absurd (w.in_default.not-Var j e))
]
