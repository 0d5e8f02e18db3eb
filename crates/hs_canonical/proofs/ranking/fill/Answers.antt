use Rattle.std.proofs.Common.{sym, subst, arith}
use Rattle.hs_flow.specs.Dependents.{HasDependents}
use Rattle.hs_history.specs.Story.{Base}
use Rattle.hs_core.specs.Core.{log_of, state_of}
use Rattle.hs_rank.specs.Ranked.{IsAtRound, HaveLeastSupports}
use Rattle.hs_rank.proofs.Backing.{canonical_log}
use Rattle.hs_rank.proofs.Filling.{least_at_end}
use Rattle.hs_canonical.proofs.ranking.fill.Goals as goal

pub next_round-requires-clause-dependents : goal.next_round-requires-clause-dependents
next_round-requires-clause-dependents c =
    subst (λ (b : Base). HasDependents b.problem.points b.problem.flow.pairs c.args.dependents.now) (sym c.loop-from.invariant.base) c.requires.dependents

pub next_round-requires-clause-at : goal.next_round-requires-clause-at
next_round-requires-clause-at c = subst (λ (b : Base). IsAtRound b.problem c.loop-from.from (log_of c.loop-from.core)) (sym c.loop-from.invariant.base) c.loop-from.invariant.at

pub returns-clause-canonical : goal.returns-clause-canonical
returns-clause-canonical c =
    let p = c.args.core.now.base.problem in
    let log = log_of c.loop-from.core in
    let at = c.loop-from.invariant.at in
    canonical_log p log (state_of c.loop-from.core).supports (least_at_end p c.loop-from.from log at (omega (arith, c.loop-from-test.false, c.len.ensures))) at.ranked.order
    (subst (λ (b : Base). HaveLeastSupports b.problem log (state_of c.loop-from.core).supports) c.loop-from.invariant.base c.loop-from.invariant.ranking.supports)
