use Rattle.std.proofs.Common.{◌≡◌, ◌∙◌, sym, subst}
use Rattle.hs_scheme.specs.acceptance.Automaton.{AutomatonData, IsAutomaton}
use Rattle.hs_resolve.specs.Tables.{automaton_with}
use Rattle.hs_resolve.proofs.resolving.automaton_of.Goals as goal

pub of-requires : goal.of-requires
of-requires c =
    let same : (let a : AutomatonData = record { states = c.len-states.result; transitions = c.args.transitions.items } in a) ≡ automaton_with c.args.tables.now c.args.transitions.items =
    λ i. record { states = c.len-states.ensures i; transitions = c.args.transitions.items } in
    subst IsAutomaton (sym same) c.requires.automaton

pub returns-clause-automaton : goal.returns-clause-automaton
returns-clause-automaton c = c.in_ok-automaton.ensures ∙ (λ i. record { states = c.len-states.ensures i; transitions = c.args.transitions.items })
