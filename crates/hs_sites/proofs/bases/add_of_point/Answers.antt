use Rattle.std.proofs.Common.{◌≡◌}
use Rattle.hs_scheme.specs.declared.flow.HeadPair.{HeadPair}
use Rattle.hs_sites.specs.declared.bases.Base.{Base}
use Rattle.hs_sites.proofs.Adding.{by_none, by_more, by_all}
use Rattle.hs_sites.proofs.bases.add_of_point.Goals as goal

abbrev Is : HeadPair → Base → Type 0
Is h b = b ≡ record { nonterminal = h.rule; given = h.given }

pub loop-head-init : goal.loop-head-init
loop-head-init c = by_none c.args.heads.now Is c.args.bases.now.keys

pub loop-head-preserved : goal.loop-head-preserved
loop-head-preserved c =
    by_more c.args.heads.now c.loop-head.head-index (record { point = 0; rule = 0; given = 0 }) Is c.args.bases.now.keys c.loop-head.bases.keys c.add.new.bases.keys c.loop-head-test.true c.loop-head.invariant c.in_ok-add.ensures

pub returns : goal.returns
returns c = by_all c.args.heads.now c.loop-head.head-index Is c.args.bases.now.keys c.loop-head.bases.keys c.loop-head-test.false c.loop-head.invariant
