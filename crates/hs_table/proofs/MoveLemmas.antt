-- The transition that a state has for a terminal.
use Rattle.std.proofs.Common.{◌≡◌, sym, ◌∙◌, ap, ℕ, ◌≤◌, nat_eq, Some, List, length, slice_get, option_map}
use Rattle.std.proofs.lemmas.Bool.{eq-eqb, and_from}
use Rattle.hs_scheme.specs.acceptance.Transition.{TransitionData}
use Rattle.hs_scheme.specs.acceptance.Automaton.{is_of, IsDeterministic}
use Rattle.hs_scheme.proofs.TransitionIndex.{find-only, is_of-true}
use Rattle.hs_table.specs.Follows.{HasMove}

-- the transition at a place is the only one of its state and terminal
pub moves_at : (ts : List TransitionData) (a n i q : ℕ) (t : TransitionData) → IsDeterministic ts → slice_get ts i ≡ Some t → t.terminal ≡ a → t.from ≡ q → length t.to ≤ n → HasMove ts a n q
moves_at ts a n i q t det at terminal from le = (
  t.to,
  (
    ap (λ o. option_map (λ (u : TransitionData). u.to) o)
        (find-only (is_of q a) ts i t at (and_from (nat_eq t.from q) (nat_eq t.terminal a) (eq-eqb t.from q from) (eq-eqb t.terminal a terminal)) (λ j u at_j h.
        let p = is_of-true q a u h in det j i u t at_j at (p.0 ∙ sym from) (p.1 ∙ sym terminal))),
    le,
  ),
)
