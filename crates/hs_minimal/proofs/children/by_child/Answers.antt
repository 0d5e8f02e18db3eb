use Rattle.std.proofs.Common.{◌≡◌, ◌∙◌, ap, subst, ℕ, List, slice_get, Some}
use Rattle.std.proofs.lemmas.Option.{slice_get-get_or}
use Rattle.hs_scheme.specs.flow.Points.{point_at}
use Rattle.hs_scheme.specs.Problem.{ProblemData}
use Rattle.hs_types.proofs.Numbers.{Grows-trans}
use Rattle.hs_minimal.proofs.GrowingLemmas.{growing_stays}
use Rattle.hs_minimal.proofs.children.by_child.Goals as goal

pub add_by_child-requires-clause-growing : goal.add_by_child-requires-clause-growing
add_by_child-requires-clause-growing c = growing_stays c.args.types.now c.args.growing.now c.requires.growing c.loop-place.types c.loop-place.invariant.grows

pub add_by_child-requires-clause-place : goal.add_by_child-requires-clause-place
add_by_child-requires-clause-place c =
    let us = c.args_at-args.result.now in
    subst (λ (xs : List ℕ). slice_get xs c.loop-place.place ≡ Some c.args.row.now.point) (c.args_at-args.ensures ∙ ap (λ (p : ProblemData). (point_at p.points c.args.point).args) c.problem.ensures)
    (slice_get-get_or us c.loop-place.place 0 c.loop-place-test.true ∙ ap (λ k. Some k) c.if-arg-row.false)

pub add_by_child-requires-clause-found : goal.add_by_child-requires-clause-found
add_by_child-requires-clause-found c = c.loop-place.invariant.found

pub loop-place-preserved : goal.loop-place-preserved
loop-place-preserved c = record {
  grows = Grows-trans c.args.types.now c.loop-place.types c.add_by_child.new.types c.loop-place.invariant.grows c.in_ok-add_by_child.ensures.grows;
  found = c.in_ok-add_by_child.ensures.found;
}
