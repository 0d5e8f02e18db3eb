use Rattle.std.proofs.Common.{sym, ◌∙◌, ap, subst, ℕ, length}
use Rattle.hs_scheme.specs.Problem.{ProblemData}
use Rattle.hs_weak.specs.Reads.{IsClosedReads}
use Rattle.hs_reads.specs.Pairs.{all_pairs}
use Rattle.hs_reads.proofs.PairLemmas.{all_closed}
use Rattle.hs_reads.proofs.ReadLemmas.{all_are}
use Rattle.hs_reads.proofs.reads.Reads.all.Goals as goal

pub returns-clause-closed : goal.returns-clause-closed
returns-clause-closed c =
    let p = c.args.problem.now in
    let points = c.count.ensures.points ∙ ap (λ (x : ProblemData). length x.points.points) c.problem.view_is in
    let states = c.states_of-states.ensures ∙ ap (λ (x : ProblemData). x.sorted.automaton.states) c.problem.view_is in
    subst (λ (n : ℕ). IsClosedReads p (all_pairs n c.states_of-states.result)) (sym points) (subst (λ (n : ℕ). IsClosedReads p (all_pairs (length p.points.points) n)) (sym states) (all_closed p c.know_sorted_problem.ensures))

pub returns-clause-all : goal.returns-clause-all
returns-clause-all c =
    all_are c.args.problem.now c.count.result c.states_of-states.result (c.count.ensures.points ∙ ap (λ (x : ProblemData). length x.points.points) c.problem.view_is)
    (c.states_of-states.ensures ∙ ap (λ (x : ProblemData). x.sorted.automaton.states) c.problem.view_is)
