-- What the rows of a table have at the arguments of sites.
--     HasRow I table u t           a row at the point u has a type as strong as t
--     LacksAt p I table j t s      the site gives parameter j an argument without such a row
--     AreMarks P sites marks       the sites of which P holds are marked
--     LacksOne p I table j set s   so for one of these types
--     MissesByRows p I table E s   the site gives an argument without a row that E asks for
use Rattle.std.specs.Prelude.{◌≡◌, ℕ, Bool, List, slice_get, Some, Contains, ◌↔◌}
use Rattle.hs_scheme.specs.Problem.{ProblemData}
use Rattle.hs_table.specs.Types.{TypeTree}
use Rattle.hs_table.specs.Entries.{Env, set_at}
use Rattle.hs_weak.specs.Strength.{AsStrongAs}
use Rattle.hs_weak.specs.Sites.{SiteData, GivesTo}
use Rattle.hs_sites.specs.declared.sites.Site.{Site}
use Rattle.hs_sites.specs.Listed.{data_of}
use Rattle.hs_sites.specs.Reaching.{IsOn}
use Rattle.hs_types.specs.Interned.{InternerData, type_of_id, RowData}

abbrev pub HasRow : InternerData → List RowData → ℕ → TypeTree → Type 0
HasRow I table u t = (row : RowData) × (Contains table row × (row.point ≡ u) × AsStrongAs (type_of_id I row.ty) t)

pub record LacksAt (p : ProblemData) (I : InternerData) (table : List RowData) (j : ℕ) (t : TypeTree) (s : SiteData) : Type 0 where
  pub u : ℕ
  pub gives : GivesTo p s j u
  pub lacks : HasRow I table u t → ⊥

-- the mark of a site stands at its place
abbrev pub AreMarks : (SiteData → Type 0) → List Site → List Bool → Type 0
AreMarks P sites marks = (k : ℕ) (x : Site) → slice_get sites k ≡ Some x → IsOn marks k ↔ P (data_of x)

abbrev pub LacksOne : ProblemData → InternerData → List RowData → ℕ → List TypeTree → SiteData → Type 0
LacksOne p I table j set s = (t : TypeTree) × (Contains set t × LacksAt p I table j t s)

abbrev pub MissesByRows : ProblemData → InternerData → List RowData → Env → SiteData → Type 0
MissesByRows p I table E s = (j : ℕ) × LacksOne p I table j (set_at E j) s
