use Rattle.std.proofs.Common.{◌≡◌}
use Rattle.hs_sites.specs.declared.bases.Base.{Base}
use Rattle.hs_sites.specs.declared.sites.Site.{Site}
use Rattle.hs_sites.proofs.Adding.{adds_pushed, by_none, by_more, by_all}
use Rattle.hs_sites.proofs.collecting.add_by_bases.Goals as goal

pub loop-base-init : goal.loop-base-init
loop-base-init c = by_none c.args.bases.now (λ (b : Base) (s : Site). s ≡ record { nonterminal = b.nonterminal; given = b.given; point = c.args.point }) c.args.sites.now.items

pub loop-base-preserved : goal.loop-base-preserved
loop-base-preserved c =
    let is : Base → Site → Type 0 = λ b s. s ≡ record { nonterminal = b.nonterminal; given = b.given; point = c.args.point } in
    by_more c.args.bases.now c.loop-base.base-index (record { nonterminal = 0; given = 0 }) is c.args.sites.now.items c.loop-base.sites.items c.push.new.self.items c.loop-base-test.true c.loop-base.invariant
    (adds_pushed _ c.loop-base.sites.items c.push.new.self.items _ c.in_ok-push.ensures.items (λ s. (λ e. e, λ e. e)))

pub returns : goal.returns
returns c =
    by_all c.args.bases.now c.loop-base.base-index (λ (b : Base) (s : Site). s ≡ record { nonterminal = b.nonterminal; given = b.given; point = c.args.point }) c.args.sites.now.items c.loop-base.sites.items
    c.loop-base-test.false c.loop-base.invariant
