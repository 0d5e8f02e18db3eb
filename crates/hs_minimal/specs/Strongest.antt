-- The strongest entries of a table, by rows, and what is found of them; only private contracts cite it.
--     IsNoState              the type is no state
--     AreOfTypes             the numbers are of types
--     AddsTypes            some were added, and none has gone
--     HasNumberOf              one of them is of the type; HasArrows: so for each arrow of a set; HaveArrows: and for those of each of some sets
--     HasAskedFor          so for each arrow that a type asks for
--     MatchExactly         no type of a row is as strong as another that a row, or the type of one, asks for
--     AsksToEnd               an environment asks for a type with the state at its end
--     AsksFirst            whatever asks at least what an environment asks does so
--     end_of_row           the state at the end of a row's type
--     IsFilingState        it is that one, or whatever asks at least what the row asks, asks for a type with the state at its end
--     IsFiled              a row is among those at its point by the two states; IsFiledAmong: it is at some point by some states
--     AreFiled             just these rows are
--     AreRowsIn            all of them are in use
--     IsOtherCovering      a row that isn't this one covers it; IsCoveredByOther: one of some rows
--     AreParted            of some rows those that no other covers, and the others
--     AreStrongest         rows of which none covers another, and which cover all
use Rattle.std.specs.Prelude.{◌≡◌, ◌≢◌, ℕ, ◌<◌, List, Option, None, length, AllPairs, Contains, ◌⊎◌}
use Rattle.hs_scheme.specs.Tree.{Trees, node, more}
use Rattle.hs_table.specs.Types.{TypeTree, arrows}
use Rattle.hs_table.specs.Entries.{Env, Has}
use Rattle.hs_weak.specs.Strength.{AsStrongAs, AsksAtLeast, Covers}
use Rattle.hs_weak.specs.Reads.{last_state}
use Rattle.hs_types.specs.Interned.{InternerData, RowData, IsRow, type_of_id, set_of_id, env_of_id, entry_of}
use Rattle.hs_reads.specs.Lists.{list_of}
use Rattle.hs_minimal.specs.Ends.{EndData, rows_ending}

abbrev pub IsNoState : TypeTree → Type 0
IsNoState a = (t : TypeTree) × ((ts : Trees (Option ℕ)) × (a ≡ node None (more t ts)))

abbrev pub AreOfTypes : InternerData → List ℕ → Type 0
AreOfTypes I found = (t : ℕ) → Contains found t → t < length I.types

pub record AddsTypes (I : InternerData) (old new : List ℕ) : Type 0 where
  pub types : AreOfTypes I old → AreOfTypes I new
  pub keeps : (t : ℕ) → Contains old t → Contains new t

abbrev pub HasNumberOf : InternerData → List ℕ → TypeTree → Type 0
HasNumberOf I found a = (t : ℕ) × (Contains found t × (type_of_id I t ≡ a))

abbrev pub HasArrows : InternerData → List ℕ → List TypeTree → Type 0
HasArrows I found s = (a : TypeTree) → Contains s a → IsNoState a → HasNumberOf I found a

abbrev pub HaveArrows : InternerData → List ℕ → List ℕ → Type 0
HaveArrows I found sets = (s : ℕ) → Contains sets s → HasArrows I found (set_of_id I s)

abbrev pub HasAskedFor : InternerData → List ℕ → TypeTree → Type 0
HasAskedFor I found ty = (sets : Env) (rest : TypeTree) (k : ℕ) (a : TypeTree) → ty ≡ arrows sets rest → Has sets k a → IsNoState a → HasNumberOf I found a

abbrev pub MatchExactly : InternerData → List RowData → Type 0
MatchExactly I rows =
    (r o : RowData) → Contains rows r → Contains rows o → (sets : Env) (rest : TypeTree) (k : ℕ) (a : TypeTree) → arrows (env_of_id I o.env) (type_of_id I o.ty) ≡ arrows sets rest → Has sets k a → AsStrongAs (type_of_id I r.ty) a → type_of_id I r.ty ≡ a

abbrev pub AsksToEnd : Env → ℕ → Type 0
AsksToEnd E q = (j : ℕ) × ((a : TypeTree) × (Has E j a × (last_state a ≡ q)))

abbrev pub AsksFirst : InternerData → ℕ → ℕ → Type 0
AsksFirst I env q = (E : Env) → AsksAtLeast AsStrongAs E (env_of_id I env) → AsksToEnd E q

abbrev pub end_of_row : InternerData → RowData → ℕ
end_of_row I row = last_state (type_of_id I row.ty)

abbrev pub IsFilingState : InternerData → RowData → ℕ → Type 0
IsFilingState I row q = (q ≡ end_of_row I row) ⊎ AsksFirst I row.env q

abbrev pub IsFiled : InternerData → List EndData → RowData → Type 0
IsFiled I filed row = (q : ℕ) × (IsFilingState I row q × Contains (rows_ending (list_of filed row.point) (end_of_row I row) q) row)

abbrev pub IsFiledAmong : List EndData → RowData → Type 0
IsFiledAmong filed row = (u : ℕ) × ((e : ℕ) × ((q : ℕ) × Contains (rows_ending (list_of filed u) e q) row))

pub record AreFiled (I : InternerData) (rows : List RowData) (filed : List EndData) : Type 0 where
  pub each : (r : RowData) → Contains rows r → IsFiled I filed r
  pub only : (r : RowData) → IsFiledAmong filed r → Contains rows r

abbrev pub AreRowsIn : InternerData → List EndData → Type 0
AreRowsIn I filed = (r : RowData) → IsFiledAmong filed r → IsRow I r

abbrev pub IsOtherCovering : InternerData → RowData → RowData → Type 0
IsOtherCovering I row other = (other ≢ row) × Covers AsStrongAs (entry_of I other) (entry_of I row)

abbrev pub IsCoveredByOther : InternerData → List RowData → RowData → Type 0
IsCoveredByOther I rows row = (o : RowData) × (Contains rows o × IsOtherCovering I row o)

pub record AreParted (I : InternerData) (filed : List EndData) (rows kept covered : List RowData) : Type 0 where
  pub distinct : AllPairs (λ a b. a ≢ b) kept
  pub left : (r : RowData) → Contains kept r → Contains rows r × ((o : RowData) → IsFiled I filed o → IsOtherCovering I r o → ⊥)
  pub taken : (r : RowData) → Contains covered r → Contains rows r
  pub each : (r : RowData) → Contains rows r → Contains kept r ⊎ Contains covered r

pub record AreStrongest (I : InternerData) (rows kept : List RowData) : Type 0 where
  pub distinct : AllPairs (λ a b. a ≢ b) kept
  pub within : (r : RowData) → Contains kept r → Contains rows r
  pub apart : (a b : RowData) → Contains kept a → Contains kept b → Covers AsStrongAs (entry_of I a) (entry_of I b) → a ≡ b
  pub covering : (r : RowData) → Contains rows r → (k : RowData) × (Contains kept k × Covers AsStrongAs (entry_of I k) (entry_of I r))
