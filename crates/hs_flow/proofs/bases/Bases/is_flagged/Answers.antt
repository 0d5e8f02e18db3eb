use Rattle.std.proofs.Common.{subst}
use Rattle.hs_flow.specs.Bases.{BasesData, HasBase}
use Rattle.hs_flow.proofs.BaseLemmas.{flagged}
use Rattle.hs_flow.proofs.bases.Bases.is_flagged.Goals as goal

pub returns : goal.returns
returns c = λ yes counts b param base.
    subst (λ (s : BasesData). HasBase counts s b) c.self.view_is
    (flagged counts c.self.inside.rows c.self.inside.others.keys b c.args.number c.args.flag c.in-Some.number c.in-Some-flag.flag c.in-Some.is c.in-Some-flag.is (c.has_flag.ensures yes) param base)
