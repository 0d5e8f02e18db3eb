-- What the search for a compact table answers.
--     NoneIsCovered      no entry of the list is covered by one before it
--     IsTable            the list is compact, ascends, and has as many entries as are allowed at most
--     IsOneTooMany             the list has one more, each of which weakly follows from those before it and is covered by none of them
--     IsCompactAnswer    the answer holds such a list
use Rattle.std.specs.Prelude.{◌≡◌, ℕ, ◌+◌, ◌<◌, ◌≤◌, List, length, slice_get, Some, All}
use Rattle.hs_scheme.specs.flow.Flow.{IsAscending}
use Rattle.hs_scheme.specs.Problem.{ProblemData}
use Rattle.hs_table.specs.Entries.{EntryData, InShape, entry_cmp}
use Rattle.hs_weak.specs.Strength.{AsStrongAs, Covers}
use Rattle.hs_weak.specs.Weak.{EachWeaklyFollows, IsCompact}
use Rattle.hs_minimal.specs.declared.answer.Compact.{Compact}
use Rattle.hs_minimal.specs.declared.answer.Compact.TheVariants.{Table, Over}

abbrev pub NoneIsCovered : List EntryData → Type 0
NoneIsCovered T = (i j : ℕ) (a b : EntryData) → i < j → slice_get T i ≡ Some a → slice_get T j ≡ Some b → Covers AsStrongAs a b → ⊥

pub record IsTable (p : ProblemData) (budget : ℕ) (C : List EntryData) : Type 0 where
  pub compact : IsCompact p C
  pub ascending : IsAscending entry_cmp C
  pub shape : All (InShape p) C
  pub few : length C ≤ budget

pub record IsOneTooMany (p : ProblemData) (budget : ℕ) (T : List EntryData) : Type 0 where
  pub long : length T ≡ budget + 1
  pub derived : EachWeaklyFollows AsStrongAs p T
  pub uncovered : NoneIsCovered T

abbrev pub IsCompactAnswer : ProblemData → ℕ → Compact → Type 0
IsCompactAnswer p budget (Table C) = IsTable p budget C.items
IsCompactAnswer p budget (Over T) = IsOneTooMany p budget T.items
