-- What a file is answered with.
--     IsFaultless      no line fault stands in it, and it has at most 10,000 states
--     IsAnswered       the first fault: on the least line, and on that line the first in the list of the line faults
--     Decides          the answer to a file: its scheme or its first fault, or want of memory
use Rattle.std.specs.Prelude.{◌≡◌, ◌⊎◌, ℕ, ◌<◌, ◌≤◌, length, Result, IfOk, OnOk, IfErr, IsErrAnd}
use Rattle.hs_scheme.specs.sorting.Unsorted.{UnsortedData}
use Rattle.hs_reader.specs.Raw.{File}
use Rattle.hs_resolve.specs.declared.fault.NameFault.{NameFault}
use Rattle.hs_resolve.specs.declared.fault.NameFault.TheVariants as fault
use Rattle.hs_resolve.specs.Numbering.{state_names, unsorted_of}
use Rattle.hs_resolve.specs.LineFaults.{DuplicateRule, DuplicateParam, Undefined, StartHasParams, DuplicateTransition, RankClash, LineFault}

abbrev pub HasNoLineFault : File → Type 0
HasNoLineFault raw = (line : ℕ) → LineFault raw line → ⊥

pub record IsFaultless (raw : File) : Type 0 where
  pub lines : HasNoLineFault raw
  pub states : length (state_names raw) ≤ 10000

-- no line fault stands on an earlier line
abbrev pub IsFirstLine : File → ℕ → Type 0
IsFirstLine raw line = (earlier : ℕ) → earlier < line → LineFault raw earlier → ⊥

abbrev pub IsAnswered : File → NameFault → Type 0
IsAnswered raw (fault.DuplicateRule line) = DuplicateRule raw line × IsFirstLine raw line
IsAnswered raw (fault.DuplicateParam line) = DuplicateParam raw line × IsFirstLine raw line × (¬ DuplicateRule raw line)
IsAnswered raw (fault.Undefined line) = Undefined raw line × IsFirstLine raw line × (¬ DuplicateRule raw line) × (¬ DuplicateParam raw line)
IsAnswered raw (fault.StartHasParams line) =
    StartHasParams raw line × IsFirstLine raw line × (¬ DuplicateRule raw line) × (¬ DuplicateParam raw line) × (¬ Undefined raw line)
IsAnswered raw (fault.DuplicateTransition line) =
    DuplicateTransition raw line × IsFirstLine raw line × (¬ DuplicateRule raw line) × (¬ DuplicateParam raw line) × (¬ Undefined raw line) × (¬ StartHasParams raw line)
IsAnswered raw (fault.RankClash line) =
    RankClash raw line × IsFirstLine raw line × (¬ DuplicateRule raw line) × (¬ DuplicateParam raw line) × (¬ Undefined raw line) × (¬ StartHasParams raw line) × (¬ DuplicateTransition raw line)
IsAnswered raw fault.TooManyStates = HasNoLineFault raw × (10000 < length (state_names raw))
IsAnswered raw fault.OutOfMemory = ⊥

pub record Decides (raw : File) (answer : Result UnsortedData NameFault) : Type 0 where
  pub value : IfOk answer (λ u. u ≡ unsorted_of raw)
  pub faultless : OnOk answer (IsFaultless raw)
  pub answered : IfErr answer (λ e. (e ≡ fault.OutOfMemory) ⊎ IsAnswered raw e)
  pub taken : IsFaultless raw → IfErr answer (λ e. e ≡ fault.OutOfMemory)
  pub refused : (first : NameFault) → IsAnswered raw first → IsErrAnd answer (λ e. (e ≡ fault.OutOfMemory) ⊎ (e ≡ first))
