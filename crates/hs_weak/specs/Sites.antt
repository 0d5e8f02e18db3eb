-- Where the arguments of a nonterminal come from. A site gives it some of them: at a point with arguments, whose head is the nonterminal
-- or a parameter that may become it. A chain of sites gives it all of them.
--     SiteData             a point, and how many arguments the nonterminal had before it
--     IsSite p G s of      s is a site of the nonterminal G, at the point `of`
--     GivesTo p s j u      the site gives the point u to parameter j
--     IsChainFrom, IsChain     sites one behind the other, from a parameter to the last one; from the first
use Rattle.std.specs.Prelude.{◌≡◌, ℕ, ◌+◌, ◌<◌, List, [], ◌∷◌, length, slice_get, Some}
use Rattle.hs_scheme.specs.flow.Points.{PointData}
use Rattle.hs_scheme.specs.flow.Flow.{IsBase, pairs_of}
use Rattle.hs_scheme.specs.Problem.{ProblemData}
use Rattle.hs_table.specs.Entries.{params_of}

pub record SiteData : Type 0 where
  pub point : ℕ
  pub given : ℕ

pub record IsSite (p : ProblemData) (G : ℕ) (s : SiteData) (of : PointData) : Type 0 where
  pub at : slice_get p.points.points s.point ≡ Some of
  pub base : IsBase (pairs_of p.flow.pairs p.flow.heads) of.rule of.head G s.given
  pub some : 0 < length of.args

-- its first argument goes to the parameter behind those that were given
pub record GivesTo (p : ProblemData) (s : SiteData) (j u : ℕ) : Type 0 where
  pub of : PointData
  pub at : slice_get p.points.points s.point ≡ Some of
  pub place : ℕ
  pub argument : slice_get of.args place ≡ Some u
  pub parameter : j ≡ s.given + place

abbrev pub IsChainFrom : ProblemData → ℕ → ℕ → List SiteData → Type 0
IsChainFrom p G g [] = g ≡ params_of p G
IsChainFrom p G g (s ∷ sites) = (s.given ≡ g) × ((of : PointData) × (IsSite p G s of × IsChainFrom p G (g + length of.args) sites))

abbrev pub IsChain : ProblemData → ℕ → List SiteData → Type 0
IsChain p G sites = IsChainFrom p G 0 sites
