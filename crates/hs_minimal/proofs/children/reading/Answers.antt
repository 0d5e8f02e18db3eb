use Rattle.std.proofs.Common.{◌∙◌, ap, subst, Contains, ◌↔◌}
use Rattle.hs_scheme.specs.acceptance.Automaton.{AutomatonData}
use Rattle.hs_scheme.specs.acceptance.Transitions.{Reads}
use Rattle.hs_scheme.specs.sorting.Sorted.{SortedData}
use Rattle.hs_scheme.specs.Problem.{ProblemData}
use Rattle.hs_minimal.proofs.children.reading.Goals as goal

pub returns : goal.returns
returns c = λ from.
    subst (λ (a : AutomatonData). Contains c.reading.result.now from ↔ Reads a.transitions c.args.terminal c.args.place c.args.state from) (ap (λ (s : SortedData). s.automaton) (c.sorted.view_is ∙ ap (λ (q : ProblemData). q.sorted) c.problem.view_is)) (c.reading.ensures from)
