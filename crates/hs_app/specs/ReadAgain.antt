-- What it means that bytes are a file that stands for a scheme.
use Rattle.std.specs.Prelude.{◌≡◌, ℕ, List, ◌∷◌, ◌++◌, Ok}
use Rattle.hs_scheme.specs.sorting.Unsorted.{UnsortedData}
use Rattle.hs_reader.specs.Raw.{File}
use Rattle.hs_reader.specs.declared.fault.Which.TheVariants.{Depth}
use Rattle.hs_reader.specs.Tokens.{Token, Placed, Lexes}
use Rattle.hs_reader.specs.Grammar.{IsFile}
use Rattle.hs_reader.specs.Limits.{IsRaw}
use Rattle.hs_reader.specs.Faults.{kinds, PassesLimit, IsAnswer}
use Rattle.hs_resolve.specs.Numbering.{unsorted_of}
use Rattle.hs_resolve.specs.Answer.{IsFaultless}

-- nowhere are more than 200 parentheses open
abbrev pub IsShallow : List Token → Type 0
IsShallow tokens = (before : List Token) (t : Token) (after : List Token) → tokens ≡ before ++ t ∷ after → PassesLimit Depth before t → ⊥

-- The bytes are cut into the tokens of a file, and this file is read unless they are too deep. It
-- is within the other limits, its names have no fault, and it is resolved to this scheme.
pub record StandsFor (bytes : List ℕ) (scheme : UnsortedData) : Type 0 where
  pub tokens : List Placed
  pub lexes : Lexes bytes tokens
  pub file : File
  pub is_file : IsFile (kinds tokens) file
  pub read : IsShallow (kinds tokens) → IsAnswer bytes (Ok file)
  pub within : IsRaw file
  pub faultless : IsFaultless file
  pub resolved : unsorted_of file ≡ scheme
