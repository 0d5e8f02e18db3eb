use Rattle.std.proofs.Common.{◌≢◌, sym, ◌∙◌, subst, List, All, AllPairs}
use Rattle.hs_scheme.specs.acceptance.Automaton.{IsAutomaton}
use Rattle.hs_scheme.specs.Problem.{ProblemData}
use Rattle.hs_table.specs.Entries.{EntryData, InShape}
use Rattle.hs_core.proofs.Tables.{core_table, core_shape}
use Rattle.hs_workers_examples.proofs.saturating.lines_of.Goals as goal

pub table_text-requires-clause-shape : goal.table_text-requires-clause-shape
table_text-requires-clause-shape c =
    let same = c.problem-problem.ensures in
    subst (λ (p : ProblemData). All (InShape p) c.as_slice.result.now) (sym same)
    (subst (λ (xs : List EntryData). All (InShape c.args.core.now.base.problem) xs) (sym (c.as_slice.ensures.value ∙ c.in_ok-table.ensures))
    (core_shape c.args.core.now c.know_core.ensures (subst (λ (p : ProblemData). IsAutomaton p.sorted.automaton) same c.know.ensures)))

pub table_text-requires-clause-distinct : goal.table_text-requires-clause-distinct
table_text-requires-clause-distinct c =
    subst (λ (xs : List EntryData). AllPairs (λ a b. a ≢ b) xs) (sym (c.as_slice.ensures.value ∙ c.in_ok-table.ensures)) (core_table c.args.core.now c.know_core.ensures).distinct
