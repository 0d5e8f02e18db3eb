-- Why the bytes of a file have no scheme with sorts.
--     IsSortable       they are a file of this scheme, which has sorts within the limits
--     HasNameFault     a name of the file is wrong
--     IsSortRefusal    a refusal of a scheme by its sorts
--     IsFileFault      a refusal of bytes, by their text, their names or their sorts; want of memory says nothing
use Rattle.std.specs.Prelude.{◌≡◌, ℕ, List, slice_get, Some}
use Rattle.hs_scheme.specs.sorting.Unsorted.{UnsortedData}
use Rattle.hs_scheme.specs.sorting.Sorted.{SortedData}
use Rattle.hs_reader.specs.Raw.{File}
use Rattle.hs_reader.specs.Faults.{IsFileWithin, IsSyntaxFault, IsLimitFault}
use Rattle.hs_resolve.specs.declared.fault.NameFault.{NameFault}
use Rattle.hs_resolve.specs.Answer.{IsAnswered}
use Rattle.hs_sorts.specs.declared.fault.SortFault.TheVariants as sorts
use Rattle.hs_sorts.specs.Inference.{IsInferred, IsSortFault}
use Rattle.hs_front.specs.declared.refusal.Refusal.{Refusal}
use Rattle.hs_front.specs.declared.refusal.Refusal.TheVariants.{Syntax, Limit, Names, IllSorted, NotFirstOrder, SortTooLarge, RuleTooLong, OutOfMemory}
use Rattle.hs_front.specs.Files.{IsSchemeOf}

-- the scheme has sorts, none of them too large, and no rule that is too long
pub record IsSortable (bytes : List ℕ) (scheme : UnsortedData) : Type 0 where
  pub of_bytes : IsSchemeOf bytes scheme
  pub sorted : SortedData
  pub inferred : IsInferred scheme sorted

-- a name of the file is wrong
pub record HasNameFault (bytes : List ℕ) (wrong : NameFault) : Type 0 where
  pub file : File
  pub reads : IsFileWithin bytes file
  pub fault : IsAnswered file wrong

-- the terminal's sort is not first order
pub record HasHigherTerminal (scheme : UnsortedData) (terminal : List ℕ) : Type 0 where
  pub number : ℕ
  pub named : slice_get scheme.names.terminals number ≡ Some terminal
  pub fault : IsSortFault scheme.rules scheme.ranks (sorts.TerminalNotFirstOrder number)

-- a refusal of a scheme by its sorts
abbrev pub IsSortRefusal : UnsortedData → Refusal → Type 0
IsSortRefusal scheme (IllSorted rule) = IsSortFault scheme.rules scheme.ranks (sorts.IllSorted rule)
IsSortRefusal scheme (NotFirstOrder terminal) = HasHigherTerminal scheme terminal
IsSortRefusal scheme (SortTooLarge rule) = IsSortFault scheme.rules scheme.ranks (sorts.SortTooLarge rule)
IsSortRefusal scheme (RuleTooLong rule) = IsSortFault scheme.rules scheme.ranks (sorts.RuleTooLong rule)
IsSortRefusal scheme OutOfMemory = Unit {0}
IsSortRefusal scheme refusal = ⊥

pub record HasSortFault (bytes : List ℕ) (refusal : Refusal) : Type 0 where
  pub scheme : UnsortedData
  pub of_bytes : IsSchemeOf bytes scheme
  pub fault : IsSortRefusal scheme refusal

abbrev pub IsFileFault : List ℕ → Refusal → Type 0
IsFileFault bytes (Syntax line) = IsSyntaxFault bytes line
IsFileFault bytes (Limit which) = IsLimitFault bytes which
IsFileFault bytes (Names fault) = HasNameFault bytes fault
IsFileFault bytes (IllSorted rule) = HasSortFault bytes (IllSorted rule)
IsFileFault bytes (NotFirstOrder terminal) = HasSortFault bytes (NotFirstOrder terminal)
IsFileFault bytes (SortTooLarge rule) = HasSortFault bytes (SortTooLarge rule)
IsFileFault bytes (RuleTooLong rule) = HasSortFault bytes (RuleTooLong rule)
IsFileFault bytes OutOfMemory = Unit {0}
IsFileFault bytes refusal = ⊥
