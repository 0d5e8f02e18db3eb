use Rattle.std.proofs.Common.{◌≡◌, ◌∙◌, ap, subst}
use Rattle.hs_scheme.specs.sorting.Sorted.{SortedData, IsSorted}
use Rattle.hs_scheme.specs.Problem.{ProblemData}
use Rattle.hs_checker.proofs.TerminalLemmas.{ranks_agree}
use Rattle.hs_checker.proofs.terminals.transition.Goals as goal

pub returns-clause-ranks : goal.returns-clause-ranks
returns-clause-ranks c = λ to moves.
    let p = c.args.problem.now in
    let sorted_is : c.problem.inside.sorted ≡ p.sorted = ap (λ (q : ProblemData). q.sorted) c.problem.view_is in
    let is_sorted : IsSorted p.sorted = subst (λ (q : SortedData). IsSorted q) (c.sorted.view_is ∙ sorted_is) c.sorted.invariant in
    ranks_agree p.sorted is_sorted c.args.q c.args.terminal to moves
