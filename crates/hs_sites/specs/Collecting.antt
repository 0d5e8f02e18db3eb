-- How sites are collected, point by point. Only private contracts cite it.
--     AddsTo S old new            the members of new are those of old and those of which S holds
--     AreBases p rule x bases     what the parameter may become: a nonterminal with so many arguments given
--     HasBases p bases            so of the parameter that is named with them
--     IsFrom bases point s        the site is at the point, by one of the bases
--     IsSiteAt p point s          s is a site at the point
--     AreOrders p orders            each point stands in them
use Rattle.std.specs.Prelude.{◌≡◌, ℕ, ◌<◌, List, length, Contains, ◌⊎◌, ◌↔◌}
use Rattle.hs_scheme.specs.declared.term.Head.TheVariants.{Var}
use Rattle.hs_scheme.specs.flow.Flow.{IsBase, pairs_of}
use Rattle.hs_scheme.specs.Problem.{ProblemData}
use Rattle.hs_sites.specs.declared.sites.Site.{Site}
use Rattle.hs_sites.specs.declared.bases.Base.{Base}
use Rattle.hs_sites.specs.declared.bases.ParameterBases.{ParameterBases}
use Rattle.hs_sites.specs.declared.collecting.CollectingOrder.{CollectingOrder}
use Rattle.hs_sites.specs.Listed.{IsOwnSite}

abbrev pub AnyBase : Type 0
AnyBase = Base

abbrev pub AnyOrder : Type 0
AnyOrder = CollectingOrder

abbrev pub AddsTo : {X : Type 0} → (X → Type 0) → List X → List X → Type 0
AddsTo {X} S old new = (x : X) → Contains new x ↔ (Contains old x ⊎ S x)

abbrev pub AreBases : ProblemData → ℕ → ℕ → List Base → Type 0
AreBases p rule x bases = (b : Base) → Contains bases b ↔ IsBase (pairs_of p.flow.pairs p.flow.heads) rule (Var x) b.nonterminal b.given

abbrev pub HasBases : ProblemData → ParameterBases → Type 0
HasBases p b = AreBases p b.rule b.param b.bases.keys

abbrev pub IsFrom : List Base → ℕ → Site → Type 0
IsFrom bases point s = (b : Base) × (Contains bases b × (s ≡ record { nonterminal = b.nonterminal; given = b.given; point = point }))

abbrev pub IsSiteAt : ProblemData → ℕ → Site → Type 0
IsSiteAt p point s = (s.point ≡ point) × IsOwnSite p s

pub record AreOrders (p : ProblemData) (orders : List CollectingOrder) : Type 0 where
  pub points : (t : CollectingOrder) → Contains orders t → t.point < length p.points.points
  pub all : (point : ℕ) → point < length p.points.points → (t : CollectingOrder) × (Contains orders t × (t.point ≡ point))
