use Rattle.std.proofs.Common.{sym, subst, List}
use Rattle.std.specs.List.Sorted.{IsNonDecreasingBy}
use Rattle.hs_scheme.specs.Problem.{ProblemData}
use Rattle.hs_flow.specs.Dependents.{HasDependents}
use Rattle.hs_types.specs.Interned.{RowData}
use Rattle.hs_reads.specs.Own.{AreAllPairs}
use Rattle.hs_minimal.specs.Growing.{AreAdded}
use Rattle.hs_minimal.proofs.SettlingLemmas.{points_within}
use Rattle.hs_minimal.proofs.spreading.spread.Goals as goal

pub settle_new-requires-clause-dependents : goal.settle_new-requires-clause-dependents
settle_new-requires-clause-dependents c =
    subst (λ (p : ProblemData). HasDependents p.points p.flow.pairs c.args.dependents.now) (sym c.loop-place.invariant.grown.problem) c.requires.dependents

pub settle_new-requires-clause-reads : goal.settle_new-requires-clause-reads
settle_new-requires-clause-reads c = subst (λ (p : ProblemData). AreAllPairs p c.args.reads.now) (sym c.loop-place.invariant.grown.problem) c.requires.reads

pub settle_new-requires-clause-points : goal.settle_new-requires-clause-points
settle_new-requires-clause-points c =
    points_within c.loop-place.types c.loop-place.growing c.loop-place.invariant.growing c.in_ok-new.new.items c.in_ok-new.ensures.added c.as_slice.result.now c.as_slice.ensures.value
    c.in_ok-points.points.items c.in_ok-points.ensures c.as_slice-in-loop-place.result.now c.as_slice-in-loop-place.ensures.value

pub settle_new-requires-clause-new : goal.settle_new-requires-clause-new
settle_new-requires-clause-new c = subst (λ (z : List RowData). AreAdded c.loop-place.growing z) (sym c.as_slice-in-loop-place-2.ensures.value) c.in_ok-new.ensures.added

pub settle_new-requires-clause-order : goal.settle_new-requires-clause-order
settle_new-requires-clause-order c = subst (λ (z : List RowData). IsNonDecreasingBy (λ (r : RowData). r.point) z) (sym c.as_slice-in-loop-place-2.ensures.value) c.in_ok-new.ensures.order
