use Rattle.std.proofs.Common.{subst, rules}
use Rattle.std.specs.Ordering.{is_lt}
use Rattle.std.proofs.lemmas.List.Sorted.{ranks_by, answers_always}
use Rattle.hs_scheme.specs.Problem.{ProblemData}
use Rattle.hs_table.specs.Entries.{EntryData, entry_cmp}
use Rattle.hs_table_laws.proofs.Orders.{entry_cmp_total}
use Rattle.hs_verdict.specs.Premises.{IsSortedProblem}
use Rattle.hs_minimal.proofs.CompactingLemmas.{is_table}
use Rattle.hs_minimal.proofs.compacting.table.Goals as goal

pub returns : goal.returns
returns c =
    let g = c.args.growing.now in
    let given : IsSortedProblem g.problem = subst (λ (p : ProblemData). IsSortedProblem p) c.problem.ensures c.know_sorted_problem.ensures in
    is_table c.args.types.now g given c.requires.growing c.requires.settled c.requires.room c.in_ok-table.table.items c.sort_by.new.self.items c.in_ok-table.ensures c.sort_by.ensures.permutation
    (c.in_ok-sort_by.ensures.sorted (λ a b. is_lt (entry_cmp a b)) (ranks_by entry_cmp_total (λ (e : EntryData). e)) (answers_always _ _ _ (λ f a r k h. search rules)))
