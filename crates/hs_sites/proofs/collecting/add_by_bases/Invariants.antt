-- the sites by the bases so far
use Rattle.std.proofs.Common.{◌≡◌, take}
use Rattle.hs_sites.specs.declared.bases.Base.{Base}
use Rattle.hs_sites.specs.declared.sites.Site.{Site}
use Rattle.hs_sites.specs.Collecting.{AddsTo}
use Rattle.hs_sites.proofs.Adding.{ByAny}
use Rattle.hs_sites.proofs.collecting.add_by_bases.Given as goal

abbrev pub invariant-loop-base : goal.invariant-loop-base
invariant-loop-base l = AddsTo (ByAny (take l.base-index l.bases) (λ (b : Base) (s : Site). s ≡ record { nonterminal = b.nonterminal; given = b.given; point = l.point })) l.initial.sites.items l.sites.items
