use Rattle.std.proofs.Common.{◌≡◌, ap, sym, ◌∙◌, length, subst, ◌++◌, rules}
use Rattle.std.specs.Prelude.{IfOk}
use Rattle.std.proofs.lemmas.Bool.{eqb-true}
use Rattle.std.proofs.lemmas.List.{nil_from_length, map-append}
use Rattle.hs_scheme.specs.Tree.{node, forest}
use Rattle.hs_scheme.specs.acceptance.Replacement.{applied}
use Rattle.hs_steps.proofs.Terms.{applied-none}
use Rattle.hs_reduce.specs.Graph.{term_at, terms_at, head_of, AddsTerm}
use Rattle.hs_reduce.proofs.ReplacementLemmas.{AddsTerm-there, further}
use Rattle.hs_reduce.proofs.replacement.applied.Goals as goal

pub returns-then-is_empty : goal.returns-then-is_empty
returns-then-is_empty c =
    let trees = c.args.graph.now in
    let none_left = nil_from_length c.args.rest.now (eqb-true (length c.args.rest.now) 0 (sym c.is_empty.ensures ∙ c.if-is_empty.true)) in
    AddsTerm-there trees c.args.place (applied (term_at trees c.args.place) (forest (terms_at trees c.args.rest.now))) c.requires.place
    (sym (ap (λ ps. applied (term_at trees c.args.place) (forest (terms_at trees ps))) none_left ∙ applied-none (term_at trees c.args.place)))

pub returns : goal.returns
returns c =
    let trees = c.args.graph.now in
    let t = term_at trees c.args.place in
    let copied : c.in_ok-args.args.items ≡ c.arguments.result.now = search rules in
    let places : c.as_slice.result.now ≡ c.arguments.result.now ++ c.args.rest.now =
    c.as_slice.ensures.value ∙ (c.in_ok-extend_from_slice.ensures.items ∙ ap (λ ps. ps ++ c.args.rest.now) copied) in
    let e : node c.head.result (forest (terms_at trees c.as_slice.result.now)) ≡ applied t (forest (terms_at trees c.args.rest.now)) =
    (λ i. node (c.head.ensures i) (forest (terms_at trees (places i))))
    ∙ (ap (λ ts. node (head_of t) (forest ts)) (map-append (term_at trees) c.arguments.result.now c.args.rest.now ∙ ap (λ ts. ts ++ terms_at trees c.args.rest.now) c.arguments.ensures.terms)
    ∙ further t (terms_at trees c.args.rest.now)) in
    subst (λ x. IfOk c.add.result (λ made. AddsTerm trees c.add.new.self made x)) e c.add.ensures
