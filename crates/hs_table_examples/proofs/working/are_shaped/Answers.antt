use Rattle.std.proofs.Common.{subst, slice_index_or}
use Rattle.std.proofs.lemmas.List.Elements.{Contains-get_or}
use Rattle.hs_scheme.specs.acceptance.Automaton.{IsAutomaton}
use Rattle.hs_scheme.specs.Problem.{ProblemData}
use Rattle.hs_core.specs.Core.{state_of, log_of}
use Rattle.hs_table_examples.proofs.working.are_shaped.Goals as goal

pub returns : goal.returns
returns c = λ k d lt.
    let core = c.args.core.now in
    let p = core.base.problem in
    let log = log_of core in
    let supported = c.every_history_supported.ensures.supported core.base core.story c.know_core.ensures.legal in
    let table = c.least_tables_are_equal.ensures.supports p log (state_of core).supports supported in
    let automaton = subst (λ (q : ProblemData). IsAutomaton q.sorted.automaton) c.problem.ensures c.know.ensures in
    c.what_follows_is_in_shape.ensures.table p log automaton table (slice_index_or log k d) (Contains-get_or log k d lt)
