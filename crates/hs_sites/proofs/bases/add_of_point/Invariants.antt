-- what the head pairs so far say
use Rattle.std.proofs.Common.{◌≡◌, take}
use Rattle.hs_scheme.specs.declared.flow.HeadPair.{HeadPair}
use Rattle.hs_sites.specs.declared.bases.Base.{Base}
use Rattle.hs_sites.specs.Collecting.{AddsTo}
use Rattle.hs_sites.proofs.Adding.{ByAny}
use Rattle.hs_sites.proofs.bases.add_of_point.Given as goal

abbrev pub invariant-loop-head : goal.invariant-loop-head
invariant-loop-head l = AddsTo (ByAny (take l.head-index l.heads) (λ (h : HeadPair) (b : Base). b ≡ record { nonterminal = h.rule; given = h.given })) l.initial.bases.keys l.bases.keys
