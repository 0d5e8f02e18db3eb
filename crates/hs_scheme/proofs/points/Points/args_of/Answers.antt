use Rattle.std.proofs.Common.{ap, sym, subst, ℕ, List, ◌<◌, length, All}
use Rattle.std.specs.List.{slice_range}
use Rattle.hs_scheme.specs.flow.Points.{PointData, PointsData}
use Rattle.hs_scheme.specs.flow.Rows.{points_in}
use Rattle.hs_scheme.proofs.RowLemmas.{row_holds, long}
use Rattle.hs_scheme.proofs.points.Points.args_of.Goals as goal

pub returns-clause-within : goal.returns-clause-within
returns-clause-within c =
    let row = c.index-row.result.now in
    subst (λ (xs : List ℕ). All (λ a. a < length c.args.self.now.points) (slice_range xs row.from row.to)) (sym c.deref.ensures.value)
    (subst (λ (p : PointsData). All (λ a. a < length p.points) (slice_range c.self.inside.rows.args.items row.from row.to)) c.self.view_is
    (row_holds c.self.inside.rows.args.items c.self.inside.rows.points.items (λ (d : PointData). All (λ a. a < length (points_in c.self.inside.rows.args.items c.self.inside.rows.points.items)) d.args) c.args.p row c.self.invariant.are_points.args (long c.self.inside.rows.args.items c.self.inside.rows.points.items c.args.self.now.points c.args.p (ap (λ (p : PointsData). p.points) c.self.view_is) c.requires) c.index-row.ensures))
