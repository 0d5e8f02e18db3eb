use Rattle.std.proofs.Common.{◌≡◌, sym, ◌∙◌, ap, ℕ, ◌+◌, ◌<◌, List, ◌++◌, ◌∷◌, [], length, map, take, get_or, append_assoc}
use Rattle.hs_scheme.specs.Tree.{node, forest}
use Rattle.hs_scheme.specs.acceptance.Replacement.{subst}
use Rattle.hs_scheme.proofs.PlainLemmas.{subst-node}
use Rattle.std.proofs.lemmas.List.{take_all, map_more}
use Rattle.hs_scheme.proofs.plain.+substitute.Goals as goal

one_more : {A : Type 0} (f : A → A) (us : List A) (i : ℕ) (u x : A) → i < length us → u ≡ get_or us i u → x ≡ f u → map f (take i us) ++ x ∷ [] ≡ map f (take (i + 1) us)
one_more f us i u x lt at is = ap (λ y. map f (take i us) ++ y ∷ []) (is ∙ ap f at) ∙ sym (map_more f us i u lt)

pub returns : goal.returns
returns t c =
    let us = c.deref-arg-items.result.now in
    let all : c.loop-arg.made-inside.args.items ≡ c.made.inside.args.items ++ map (λ t. subst t c.args.with.now) us =
    c.loop-arg.invariant.args ∙ ap (λ vs. c.made.inside.args.items ++ map (λ t. subst t c.args.with.now) vs) (take_all c.loop-arg.arg-index us c.loop-arg-test.false) in
    (λ i. node (c.loop-arg.invariant.head i) (forest (all i)))
    ∙ (subst-node c.term.inside.head c.made.inside.head us c.made.inside.args.items c.args.with.now (c.made.view_is ∙ c.in_ok-made.ensures)
    ∙ ap (λ vs. subst (node c.term.inside.head (forest vs)) c.args.with.now) c.deref-arg-items.ensures.value
    ∙ ap (λ t. subst t c.args.with.now) c.term.view_is)

pub loop-arg-preserved : goal.loop-arg-preserved
loop-arg-preserved t c =
    let us = c.deref-arg-items.result.now in let i = c.loop-arg.arg-index in let own = c.made.inside.args.items in let x = c.in_ok-substitute.field-0 in
    record {
      head = c.loop-arg.invariant.head;
      args = c.in_ok-push.ensures.items ∙ (ap (λ done. done ++ x ∷ []) c.loop-arg.invariant.args ∙ (append_assoc own (map (λ t. subst t c.args.with.now) (take i us)) (x ∷ [])
          ∙ ap (λ vs. own ++ vs) (one_more (λ t. subst t c.args.with.now) us i c.arg-item.result x c.loop-arg-test.true c.arg-item.is c.in_ok-substitute.ensures)));
    }
