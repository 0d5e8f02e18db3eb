-- A walk over the parameters of a nonterminal by those of its sites that aren't marked. Only private contracts cite it.
--     IsOn marks g                 the mark of the number g is set
--     GoesOn from count old new    where `from` is marked, so is the number `count` behind it, if it has a mark, and nothing else changes
--     IsReached p G P g            where each chain has a site of which P holds, no chain has such a site only before parameter g
--     IsWalk p G sites marks k reached    by the first k sites: what is marked is reached, and what they lead on to is marked
use Rattle.std.specs.Prelude.{◌≡◌, ℕ, ◌+◌, ◌<◌, Bool, true, List, length, slice_get, Some, Contains, ◌⊎◌}
use Rattle.hs_scheme.specs.flow.Points.{point_at}
use Rattle.hs_scheme.specs.Problem.{ProblemData}
use Rattle.hs_weak.specs.Sites.{SiteData, IsChainFrom}
use Rattle.hs_sites.specs.declared.sites.Site.{Site}
use Rattle.hs_sites.specs.Walks.{EachChainHas, IsMarked}

abbrev pub IsOn : List Bool → ℕ → Type 0
IsOn marks g = slice_get marks g ≡ Some true

pub record GoesOn (from count : ℕ) (old new : List Bool) : Type 0 where
  pub len : length new ≡ length old
  pub kept : (g : ℕ) → IsOn old g → IsOn new g
  pub come : (g : ℕ) → IsOn new g → IsOn old g ⊎ (IsOn old from × (g ≡ from + count))
  pub there : IsOn old from → from + count < length old → IsOn new (from + count)

-- so a chain from parameter g on has a site of which P holds
abbrev pub IsReached : ProblemData → ℕ → (SiteData → Type 0) → ℕ → Type 0
IsReached p G P g = EachChainHas p G P → (sites : List SiteData) → IsChainFrom p G g sites → ((s : SiteData) → Contains sites s → P s → ⊥) → ⊥

-- how many arguments a site gives
abbrev pub width : ProblemData → Site → ℕ
width p s = length (point_at p.points s.point).args

pub record IsWalk (p : ProblemData) (G : ℕ) (sites : List Site) (marks : List Bool) (k : ℕ) (reached : List Bool) : Type 0 where
  pub sound : (g : ℕ) → IsOn reached g → IsReached p G (IsMarked G sites marks) g
  pub closed : (i : ℕ) (s : Site) → i < k → slice_get sites i ≡ Some s → (IsOn marks i → ⊥) → IsOn reached s.given → s.given + width p s < length reached → IsOn reached (s.given + width p s)
