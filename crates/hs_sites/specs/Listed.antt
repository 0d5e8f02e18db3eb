-- The sites of nonterminals in a list.
--     data_of s             the site, without its nonterminal
--     IsOwnSite p s         it is a site of its nonterminal
--     AreSites p sites      the list has each site of each nonterminal, and nothing else
--     AreSitesOf p G sites  so of the nonterminal G, and a site before which fewer arguments were given stands before the others
use Rattle.std.specs.Prelude.{◌≡◌, refl, ℕ, List, Contains, ◌↔◌}
use Rattle.std.specs.Ordering.{nat_cmp, ordering_then}
use Rattle.std.specs.List.Sorted.{IsNonDecreasingBy}
use Rattle.std.specs.declared.cmp.Ordering.{Ordering}
use Rattle.std.specs.Coded.{Coded, code_by, coded×, coded_ℕ}
use Rattle.hs_scheme.specs.flow.Points.{PointData}
use Rattle.hs_scheme.specs.Problem.{ProblemData}
use Rattle.hs_weak.specs.Sites.{SiteData, IsSite}
use Rattle.hs_sites.specs.declared.sites.Site.{Site}

abbrev pub AnySite : Type 0
AnySite = Site

abbrev pub data_of : Site → SiteData
data_of s = record { point = s.point; given = s.given }

abbrev pub IsOwnSite : ProblemData → Site → Type 0
IsOwnSite p s = (of : PointData) × IsSite p s.nonterminal (data_of s) of

abbrev pub AreSites : ProblemData → List Site → Type 0
AreSites p sites = (s : Site) → Contains sites s ↔ IsOwnSite p s

pub record AreSitesOf (p : ProblemData) (G : ℕ) (sites : List Site) : Type 0 where
  pub exact : (s : Site) → Contains sites s ↔ ((s.nonterminal ≡ G) × IsOwnSite p s)
  pub ascending : IsNonDecreasingBy (λ (s : Site). s.given) sites

-- sites are compared field by field
abbrev pub site_cmp : Site → Site → Ordering
site_cmp a b = ordering_then (nat_cmp a.nonterminal b.nonterminal) (ordering_then (nat_cmp a.given b.given) (nat_cmp a.point b.point))

abbrev pub coded_site : Coded Site
coded_site = code_by (ℕ × (ℕ × ℕ)) (coded× coded_ℕ (coded× coded_ℕ coded_ℕ)) (λ s. (s.nonterminal, (s.given, s.point))) (λ p. record { nonterminal = p.0; given = p.1.0; point = p.1.1 }) (λ _. refl)
