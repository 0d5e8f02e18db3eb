use Rattle.std.proofs.Common.{ap, subst, ◌<◌, length}
use Rattle.hs_scheme.specs.flow.Points.{PointData, PointsData}
use Rattle.hs_scheme.proofs.RowLemmas.{row_holds, long}
use Rattle.hs_scheme.proofs.points.Points.rule_of.Goals as goal

pub returns-clause-within : goal.returns-clause-within
returns-clause-within c =
    subst (λ (p : PointsData). c.index.result.now.rule < length p.bodies) c.self.view_is
    (row_holds c.self.inside.rows.args.items c.self.inside.rows.points.items (λ (d : PointData). d.rule < length c.self.inside.bodies.items) c.args.p c.index.result.now c.self.invariant.are_points.rules (long c.self.inside.rows.args.items c.self.inside.rows.points.items c.args.self.now.points c.args.p (ap (λ (p : PointsData). p.points) c.self.view_is) c.requires) c.index.ensures)
