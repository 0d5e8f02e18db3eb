use Rattle.std.proofs.Common.{sym, subst, ℕ, List, Contains, ◌↔◌, nat_eq}
use Rattle.std.specs.HashMap.{get}
use Rattle.hs_scheme.specs.acceptance.Automaton.{AutomatonData}
use Rattle.hs_scheme.specs.acceptance.Transitions.{items_of, IsPlaceOf}
use Rattle.hs_scheme.proofs.TransitionLemmas.{places_exactly}
use Rattle.hs_scheme.proofs.automaton.Automaton.with_terminal.Goals as goal

pub returns : goal.returns
returns c = λ place.
    let rows : ℕ → List ℕ = λ a. items_of (get nat_eq c.self.inside.by_terminal a) in
    subst (λ (xs : List ℕ). Contains xs place ↔ IsPlaceOf c.args.self.now.transitions c.args.terminal place) (sym c.places_at.ensures)
    (subst (λ (a : AutomatonData). Contains (rows c.args.terminal) place ↔ IsPlaceOf a.transitions c.args.terminal place) c.self.view_is
    (places_exactly c.self.inside.transitions.items rows c.self.invariant.2 c.args.terminal place))
