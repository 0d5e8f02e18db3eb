use Rattle.std.proofs.Common.{◌≡◌, sym, ◌∙◌, ap, ◌+◌, ◌++◌, ◌∷◌, [], take, append_assoc}
use Rattle.std.proofs.lemmas.List.{take_all, take_more, append-nil}
use Rattle.hs_scheme.specs.Tree.{node, forest, forest-append}
use Rattle.hs_scheme.specs.acceptance.Replacement.{applied}
use Rattle.hs_scheme.proofs.plain.applied.Goals as goal

pub loop-arg-init : goal.loop-arg-init
loop-arg-init c = sym (append-nil c.term.inside.args.items)

pub loop-arg-preserved : goal.loop-arg-preserved
loop-arg-preserved c =
    let rest = c.args.rest.now in let own = c.term.inside.args.items in let i = c.loop-arg.arg-index in
    let more : take (i + 1) rest ≡ take i rest ++ c.in_ok-copy.field-0 ∷ [] =
    take_more rest i c.arg-item.result c.loop-arg-test.true ∙ ap (λ u. take i rest ++ u ∷ []) (sym c.arg-item.is ∙ sym c.in_ok-copy.ensures) in
    c.in_ok-push.ensures.items ∙ (ap (λ us. us ++ c.in_ok-copy.field-0 ∷ []) c.loop-arg.invariant
    ∙ (append_assoc own (take i rest) (c.in_ok-copy.field-0 ∷ []) ∙ ap (λ us. own ++ us) (sym more)))

pub returns : goal.returns
returns c =
    let rest = c.args.rest.now in let own = c.term.inside.args.items in let head = c.term.inside.head in
    ap (λ us. node head (forest us)) (c.loop-arg.invariant ∙ ap (λ us. own ++ us) (take_all c.loop-arg.arg-index rest c.loop-arg-test.false))
    ∙ (ap (node head) (forest-append own rest) ∙ ap (λ t. applied t (forest rest)) c.term.view_is)
