-- Chains with marked sites.
--     EachChainHas p G P        each chain of the nonterminal has a site of which P holds; the empty chain has none
--     IsMarked G sites marks s  a list of sites of G has the site at marked places alone
use Rattle.std.specs.Prelude.{◌≡◌, ℕ, Bool, true, List, slice_get, Some, Contains}
use Rattle.hs_scheme.specs.Problem.{ProblemData}
use Rattle.hs_weak.specs.Sites.{SiteData, IsChain}
use Rattle.hs_sites.specs.declared.sites.Site.{Site}

abbrev pub EachChainHas : ProblemData → ℕ → (SiteData → Type 0) → Type 0
EachChainHas p G P = (sites : List SiteData) → IsChain p G sites → (s : SiteData) × (Contains sites s × P s)

abbrev pub IsMarked : ℕ → List Site → List Bool → SiteData → Type 0
IsMarked G sites marks s = (k : ℕ) → slice_get sites k ≡ Some (record { nonterminal = G; given = s.given; point = s.point }) → slice_get marks k ≡ Some true
