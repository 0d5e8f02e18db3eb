use Rattle.std.proofs.Common.{sym, ◌∙◌, subst, List, All}
use Rattle.hs_scheme.specs.Problem.{ProblemData}
use Rattle.hs_table.specs.Entries.{EntryData, InShape}
use Rattle.hs_types.specs.Interned.{InternerData}
use Rattle.hs_rules.specs.Conclusions.{DeducedData, IsDeduced}
use Rattle.hs_core.specs.Core.{log_of}
use Rattle.hs_table_examples.proofs.Closing.{following_deduced}
use Rattle.hs_table_examples.proofs.working.publish_by.Goals as goal

pub following-requires-clause-shape : goal.following-requires-clause-shape
following-requires-clause-shape c =
    subst (λ (q : ProblemData). All (InShape q) c.copy_log.new.to.log) (sym c.problem-problem.ensures)
    (subst (λ (xs : List EntryData). All (InShape c.args.core.now.base.problem) xs) (sym (c.in_ok-copy_log.ensures ∙ c.replica.ensures.log)) c.are_shaped.ensures)

pub publish_first-requires-clause-holds : goal.publish_first-requires-clause-holds
publish_first-requires-clause-holds c = (c.args.flight.work, c.requires.flight)

pub publish_first-requires-clause-deduced : goal.publish_first-requires-clause-deduced
publish_first-requires-clause-deduced c =
    let ids = c.following.new.replica.ids in
    let log = log_of c.args.core.now in
    let found = c.in_ok-found.found.items in
    let all = following_deduced c.problem-problem.result.now ids c.copy_log.new.to.log c.args.flight.work c.args.point found c.in_ok-found.ensures.found in
    subst (λ (xs : List DeducedData). All (IsDeduced c.args.core.now.base.problem c.interner.result.now log) xs) (sym c.as_slice.ensures.value)
    (subst (λ (i : InternerData). All (IsDeduced c.args.core.now.base.problem i log) found) (sym c.interner.ensures)
    (subst (λ (q : ProblemData). All (IsDeduced q ids log) found) c.problem-problem.ensures
    (subst (λ (xs : List EntryData). All (IsDeduced c.problem-problem.result.now ids xs) found) (c.in_ok-copy_log.ensures ∙ c.replica.ensures.log) all)))
