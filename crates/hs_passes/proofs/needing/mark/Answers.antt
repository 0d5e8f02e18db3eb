use Rattle.std.proofs.Common.{sym, subst, true}
use Rattle.std.specs.Prelude.{slice_set, ◌&&◌, nat_eq}
use Rattle.hs_passes.specs.Needing.{GainsFlags}
use Rattle.hs_passes.proofs.Marks.{marked_one}
use Rattle.hs_passes.proofs.needing.mark.Goals as goal

pub returns-in-Some : goal.returns-in-Some
returns-in-Some c =
    let counts = c.args.parameters.now in
    let old = c.args.needed.now in
    subst (λ n. GainsFlags counts old (slice_set old n true) (λ f j. nat_eq c.args.rule f && nat_eq c.args.param j)) (sym c.in-Some.ensures.number.1)
    (marked_one counts c.args.rule c.args.param old c.requires c.in-Some.ensures.number.0)
