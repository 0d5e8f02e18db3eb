use Rattle.std.proofs.Common.{◌≡◌, sym, ap, subst, List, length, arith, Contains}
use Rattle.hs_scheme.specs.declared.term.Head.TheVariants.{Tm}
use Rattle.hs_scheme.specs.flow.Points.{point_at}
use Rattle.hs_scheme.specs.Problem.{ProblemData}
use Rattle.hs_table.specs.Follows.{rank_of}
use Rattle.hs_types.specs.Interned.{RowData}
use Rattle.hs_minimal.specs.Growing.{entries}
use Rattle.hs_minimal.specs.Following.{IsFollowing}
use Rattle.hs_minimal.proofs.GrowingLemmas.{growing_stays}
use Rattle.hs_minimal.proofs.SettlingLemmas.{at_own_point, grown_same, grown_then}
use Rattle.hs_minimal.proofs.spreading.settle_children.Goals as goal

pub by_child-requires-clause-point : goal.by_child-requires-clause-point
by_child-requires-clause-point c = let within = c.requires.point in omega (arith, within, ap (λ (p : ProblemData). length p.points.points) c.loop-row.invariant.grown.problem)

pub by_child-requires-clause-head : goal.by_child-requires-clause-head
by_child-requires-clause-head c = subst (λ (p : ProblemData). (point_at p.points c.args.point).head ≡ Tm c.args.terminal) (sym c.loop-row.invariant.grown.problem) c.requires.head

pub by_child-requires-clause-full : goal.by_child-requires-clause-full
by_child-requires-clause-full c = subst (λ (p : ProblemData). length (point_at p.points c.args.point).args ≡ rank_of p c.args.terminal) (sym c.loop-row.invariant.grown.problem) c.requires.full

pub by_child-requires-clause-row : goal.by_child-requires-clause-row
by_child-requires-clause-row c = c.loop-row.invariant.grown.keeps c.row-item.result (c.requires.new c.row-item.result (c.loop-row.row-index, c.loop-row-test.true, sym c.row-item.is))

pub add_rows-requires-clause-growing : goal.add_rows-requires-clause-growing
add_rows-requires-clause-growing c = growing_stays c.loop-row.types c.loop-row.growing c.loop-row.invariant.growing c.by_child.new.types c.in_ok-found.ensures.grows

pub add_rows-requires-clause-rows : goal.add_rows-requires-clause-rows
add_rows-requires-clause-rows c =
    let g = c.loop-row.growing in
    let J = c.by_child.new.types in
    subst (λ (z : List RowData). (r : RowData) → Contains z r → IsFollowing g.problem (entries J g.history) r.point J r) (sym c.as_slice.ensures.value)
    (λ r m. at_own_point g.problem (entries J g.history) c.args.point J r (c.in_ok-found.ensures.found r m))

pub loop-row-preserved : goal.loop-row-preserved
loop-row-preserved c =
    let f = c.args.growing.now in
    let g = c.loop-row.growing in
    let I = c.args.types.now in
    let L = c.loop-row.types in
    let J = c.by_child.new.types in
    let K = c.add_rows.new.types in
    let new = c.add_rows.new.growing in
    record {
      growing = c.in_ok-add_rows.ensures.growing;
      grown = grown_then I L K f g new c.loop-row.invariant.grown (grown_then L J K g g new (grown_same L J g c.in_ok-found.ensures.grows) c.in_ok-add_rows.ensures.grown);
    }
