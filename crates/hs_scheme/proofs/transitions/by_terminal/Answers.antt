use Rattle.std.proofs.Common.{◌≡◌, refl, subst, ℕ, ◌++◌, ◌∷◌, [], cond, length, nat_eq, arith}
use Rattle.std.specs.HashMap.{get}
use Rattle.std.proofs.lemmas.Option.{slice_get_read}
use Rattle.hs_scheme.specs.acceptance.Transition.{TransitionData}
use Rattle.hs_scheme.specs.acceptance.Transitions.{items_of, IsByTerminal}
use Rattle.hs_scheme.proofs.TransitionLemmas.{terminal_more}
use Rattle.hs_scheme.proofs.transitions.by_terminal.Goals as goal

pub loop-place-preserved : goal.loop-place-preserved
loop-place-preserved c =
    let ts = c.args.transitions.now in
    terminal_more ts c.loop-place.place c.index-transitions-place.result (λ a. items_of (get nat_eq c.loop-place.rows a)) (λ a. items_of (get nat_eq c.add_place.new.rows a))
    (slice_get_read ts (length ts) c.loop-place.place c.index-transitions-place.result refl c.loop-place-test.true c.index-transitions-place.is)
    (subst (λ (t : TransitionData). (a : ℕ) → items_of (get nat_eq c.add_place.new.rows a)
    ≡ cond (nat_eq t.terminal a) (items_of (get nat_eq c.loop-place.rows a) ++ c.loop-place.place ∷ []) (items_of (get nat_eq c.loop-place.rows a))) c.transition.view_is c.in_ok-add_place.ensures)
    c.loop-place.invariant

pub returns : goal.returns
returns c =
    let end : c.loop-place.place ≡ length c.args.transitions.now = omega arith in
    subst (λ (n : ℕ). IsByTerminal c.args.transitions.now n (λ a. items_of (get nat_eq c.loop-place.rows a))) end c.loop-place.invariant
