-- What reduction along every path, up to n steps, finds.
--     IsErrorWithin           a path to an error in fewer than n steps
--     IsFoundWithin           no path, and the cut at n is read to its end; or such a path
--     IsBoundedAnswer         so for the start
use Rattle.std.specs.Prelude.{◌≡◌, ℕ, ◌<◌, false, IsTrue, Option, Some, None}
use Rattle.hs_scheme.specs.declared.term.Head.{Head}
use Rattle.hs_scheme.specs.Tree.{Tree}
use Rattle.hs_scheme.specs.acceptance.Cut.{cut}
use Rattle.hs_scheme.specs.acceptance.Run.{run, start}
use Rattle.hs_scheme.specs.sorting.Sorted.{SortedData}
use Rattle.hs_reduce.specs.declared.answers.Bounded.{Bounded}
use Rattle.hs_reduce.specs.declared.answers.Bounded.TheVariants.{NoError, Error}
use Rattle.hs_scheme.specs.acceptance.FailingPath.{FailingPathData}
use Rattle.hs_reduce.specs.Path.{IsErrorFrom}

-- the automaton reads the tree of t, cut at n, to its end
abbrev pub ReadsCut : SortedData → ℕ → ℕ → Tree Head → Type 0
ReadsCut s n q t = IsTrue (run s.automaton.transitions q (cut s.scheme.rules n t))

pub record IsErrorWithin (s : SortedData) (n q : ℕ) (t : Tree Head) (path : FailingPathData) : Type 0 where
  pub within : path.used < n
  pub error : IsErrorFrom s.scheme.rules s.automaton.transitions q t path

abbrev pub IsFoundWithin : SortedData → ℕ → ℕ → Tree Head → Option FailingPathData → Type 0
IsFoundWithin s n q t None = ReadsCut s n q t
IsFoundWithin s n q t (Some path) = IsErrorWithin s n q t path

abbrev pub IsBoundedAnswer : SortedData → ℕ → Bounded → Type 0
IsBoundedAnswer s n NoError = ReadsCut s n 0 start
IsBoundedAnswer s n (Error path) = (run s.automaton.transitions 0 (cut s.scheme.rules n start) ≡ false) × IsErrorWithin s n 0 start path
