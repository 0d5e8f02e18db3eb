-- What it means that bytes are the file of a scheme, and that the value tree of this scheme is accepted.
--     IsFileOf                  they are a file of this scheme
--     IsAccepted, IsRejected    they are one whose value tree its automaton accepts, or doesn't
--     IsSchemeOf                they are a file of this scheme, and nothing in it passes a limit of the text
--     max_bytes                 the most bytes of a file
use Rattle.std.specs.Prelude.{◌≡◌, ℕ, List}
use Rattle.hs_scheme.specs.sorting.Unsorted.{UnsortedData}
use Rattle.hs_scheme.specs.acceptance.Run.{Accepts}
use Rattle.hs_reader.specs.Raw.{File}
use Rattle.hs_reader.specs.Tokens.{Placed, Lexes}
use Rattle.hs_reader.specs.Grammar.{IsFile}
use Rattle.hs_reader.specs.Faults.{kinds, NoLimit}
use Rattle.hs_resolve.specs.Numbering.{unsorted_of}
use Rattle.hs_resolve.specs.Answer.{IsFaultless}

-- The bytes are a file of this scheme: they are cut into tokens, these are rules and transitions by the grammar, none of the names in
-- them has a fault, and with numbers for the names they are the scheme.
pub record IsFileOf (bytes : List ℕ) (scheme : UnsortedData) : Type 0 where
  pub tokens : List Placed
  pub lexes : Lexes bytes tokens
  pub file : File
  pub is_file : IsFile (kinds tokens) file
  pub faultless : IsFaultless file
  pub is : scheme ≡ unsorted_of file

-- they are one whose value tree its automaton accepts
pub record IsAccepted (bytes : List ℕ) : Type 0 where
  pub scheme : UnsortedData
  pub of_bytes : IsFileOf bytes scheme
  pub accepts : Accepts scheme.rules scheme.automaton.transitions

-- they are one whose value tree it doesn't accept
pub record IsRejected (bytes : List ℕ) : Type 0 where
  pub scheme : UnsortedData
  pub of_bytes : IsFileOf bytes scheme
  pub rejects : Accepts scheme.rules scheme.automaton.transitions → ⊥

-- they are a file of this scheme in which nothing passes a limit of the text
pub record IsSchemeOf (bytes : List ℕ) (scheme : UnsortedData) : Type 0 where
  pub of : IsFileOf bytes scheme
  pub within : NoLimit (kinds of.tokens)

-- 16 MiB
abbrev pub max_bytes : ℕ
max_bytes = 16777216
