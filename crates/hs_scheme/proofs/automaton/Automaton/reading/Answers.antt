use Rattle.std.proofs.Common.{sym, subst, ℕ, List, Contains, ◌↔◌}
use Rattle.std.specs.HashMap.{get}
use Rattle.hs_scheme.specs.Key.{triple_eq}
use Rattle.hs_scheme.specs.acceptance.Automaton.{AutomatonData}
use Rattle.hs_scheme.specs.acceptance.Transitions.{items_of, Reads}
use Rattle.hs_scheme.proofs.TransitionLemmas.{reads_exactly}
use Rattle.hs_scheme.proofs.automaton.Automaton.reading.Goals as goal

pub returns : goal.returns
returns c = λ from.
    let rows : ℕ → ℕ → ℕ → List ℕ = λ a child s. items_of (get triple_eq c.self.inside.by_child (a, child, s)) in
    subst (λ (xs : List ℕ). Contains xs from ↔ Reads c.args.self.now.transitions c.args.terminal c.args.child c.args.state from) (sym c.states_at.ensures)
    (subst (λ (a : AutomatonData). Contains (rows c.args.terminal c.args.child c.args.state) from ↔ Reads a.transitions c.args.terminal c.args.child c.args.state from) c.self.view_is
    (reads_exactly c.self.inside.transitions.items rows c.self.invariant.0.deterministic c.self.invariant.3 c.args.terminal c.args.child c.args.state from))
