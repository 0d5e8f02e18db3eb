use Rattle.std.proofs.Common.{◌≡◌, refl, subst, ℕ, length, arith}
use Rattle.std.specs.HashMap.{get}
use Rattle.std.proofs.lemmas.Option.{slice_get_read}
use Rattle.hs_scheme.specs.Key.{triple_eq}
use Rattle.hs_scheme.specs.acceptance.Transitions.{items_of, IsByChild}
use Rattle.hs_scheme.proofs.TransitionLemmas.{children_more}
use Rattle.hs_scheme.proofs.transitions.by_child.Goals as goal

pub loop-transition-preserved : goal.loop-transition-preserved
loop-transition-preserved c =
    let ts = c.args.transitions.now in
    children_more ts c.loop-transition.transition-index c.transition-item.result (λ a child s. items_of (get triple_eq c.loop-transition.rows (a, child, s)))
    (λ a child s. items_of (get triple_eq c.add_children.new.rows (a, child, s)))
    (slice_get_read ts (length ts) c.loop-transition.transition-index c.transition-item.result refl c.loop-transition-test.true c.transition-item.is) c.in_ok-add_children.ensures c.loop-transition.invariant

pub returns : goal.returns
returns c =
    let end : c.loop-transition.transition-index ≡ length c.args.transitions.now = omega arith in
    subst (λ (n : ℕ). IsByChild c.args.transitions.now n (λ a child s. items_of (get triple_eq c.loop-transition.rows (a, child, s)))) end c.loop-transition.invariant
