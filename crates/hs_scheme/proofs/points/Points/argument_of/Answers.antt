use Rattle.std.proofs.Common.{◌≡◌, ◌∙◌, ap, sym, subst, Option, Some}
use Rattle.hs_scheme.specs.declared.points.Argument.{Argument}
use Rattle.hs_scheme.specs.flow.Points.{PointsData}
use Rattle.hs_scheme.specs.flow.Rows.{ArePlacesOfArguments, places_in}
use Rattle.hs_scheme.proofs.RowLemmas.{place_there, long}
use Rattle.hs_scheme.proofs.points.Points.argument_of.Goals as goal

pub returns : goal.returns
returns c = λ q place.
    let at = place_there c.self.inside.rows.points.items c.args.p c.index.result.now (long c.self.inside.rows.args.items c.self.inside.rows.points.items c.args.self.now.points c.args.p (ap (λ (p : PointsData). p.points) c.self.view_is) c.requires) c.index.ensures in
    let exact = subst (λ (p : PointsData). ArePlacesOfArguments p (places_in c.self.inside.rows.points.items)) c.self.view_is c.self.invariant.places c.args.p q place in (
      λ e. exact.0 (at ∙ ap (λ (a : Option Argument). Some a) e),
      λ h. same _ _ (sym at ∙ exact.1 h),
    )
  where
    same : (x y : Option Argument) → Some x ≡ Some y → x ≡ y
    same x y e = (cc)
