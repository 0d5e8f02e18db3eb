use Rattle.std.proofs.Common.{◌∙◌, ap, subst, IsTrue, ◌↔◌}
use Rattle.hs_scheme.specs.acceptance.Automaton.{AutomatonData}
use Rattle.hs_scheme.specs.Problem.{ProblemData}
use Rattle.hs_table_laws.proofs.Shapes.{LeadsWithin}
use Rattle.hs_table_plain.proofs.table.leads_within.Goals as goal

pub returns : goal.returns
returns c =
    subst (λ (a : AutomatonData). IsTrue c.is_within.result ↔ LeadsWithin a) ((λ i. (c.problem-inside.view_is i).sorted.automaton) ∙ ap (λ (q : ProblemData). q.sorted.automaton) c.problem.view_is)
    c.is_within.ensures
