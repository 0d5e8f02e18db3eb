-- What the words of the command line name.
--     FilePair     the file of a scheme, and the file with a table
--     files_in     those that the words name, where they have their form
use Rattle.std.specs.Prelude.{ℕ, Bool, false, ◌||◌, ◌==◌, List, [], ◌∷◌, Option, Some, None, if◌then◌else◌}
use Rattle.hs_check.specs.declared.files.Files.{Files}

pub record FilePair : Type 0 where
  pub scheme : List ℕ
  pub table : List ℕ

abbrev pub named : Files → FilePair
named files = record { scheme = files.scheme.now; table = files.table.now }

-- it begins with `-`
abbrev pub is_option : List ℕ → Bool
is_option [] = false
is_option (b ∷ bytes) = b == 45

abbrev pub pair_of : List ℕ → List ℕ → Option FilePair
pair_of scheme table = if is_option scheme || is_option table then None else Some (record { scheme = scheme; table = table })

-- The program's name, which isn't looked at, and two words that don't begin with `-`.
abbrev pub files_in : List (List ℕ) → Option FilePair
files_in [] = None
files_in (program ∷ []) = None
files_in (program ∷ (scheme ∷ [])) = None
files_in (program ∷ (scheme ∷ (table ∷ []))) = pair_of scheme table
files_in (program ∷ (scheme ∷ (table ∷ (more ∷ others)))) = None
