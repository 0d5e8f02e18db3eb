-- The least line of which something holds.
--     IsLeast       the least line where there is one, and nothing where there is none
--     earliest      the lesser of two lines
--     Before        it holds of an item at one of the first n places, on this line
use Rattle.std.specs.Prelude.{◌≡◌, ℕ, ◌<◌, ◌≤◌, min, List, slice_get, Option, Some, None}

abbrev pub IsLeast : (ℕ → Type 0) → Option ℕ → Type 0
IsLeast P None = (line : ℕ) → P line → ⊥
IsLeast P (Some least) = P least × ((line : ℕ) → P line → least ≤ line)

abbrev pub earliest : Option ℕ → Option ℕ → Option ℕ
earliest None o = o
earliest (Some a) None = Some a
earliest (Some a) (Some b) = Some (min a b)

pub record Before {A : Type 0} (P : ℕ → A → ℕ → Type 0) (items : List A) (n : ℕ) (line : ℕ) : Type 0 where
  pub place : ℕ
  pub item : A
  pub below : place < n
  pub at : slice_get items place ≡ Some item
  pub holds : P place item line
