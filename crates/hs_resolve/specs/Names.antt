-- Lists of names, and the number of a name in one.
--     is_among      the name is one of these
--     number_of     its place, counted from 0
--     distinct      the names without repeats, each where it occurs first
use Rattle.std.specs.Prelude.{ℕ, Bool, not, List, [], ◌∷◌, ◌++◌, map, filter, position, Option, Some, None, unwrap_or, if◌then◌else◌}
use Rattle.std.specs.List.{list_any}
use Rattle.std.specs.Str.{bytes_eq}
use Rattle.hs_reader.specs.declared.raw.RawName.{RawName}

abbrev pub texts : List RawName → List (List ℕ)
texts names = map (λ n. n.text) names

abbrev pub is_among : List (List ℕ) → List ℕ → Bool
is_among names x = list_any (bytes_eq x) names

abbrev pub number_of : List (List ℕ) → List ℕ → Option ℕ
number_of names x = position (bytes_eq x) names

-- the number of a name that is among these
abbrev pub number : List (List ℕ) → List ℕ → ℕ
number names x = unwrap_or (number_of names x) 0

-- the names without repeats: the first one, and then the others
abbrev pub distinct : List (List ℕ) → List (List ℕ)
distinct [] = []
distinct (x ∷ xs) = x ∷ filter (λ y. not (bytes_eq x y)) (distinct xs)

-- the names, and behind them a name that isn't among them
abbrev pub with_name : List (List ℕ) → List ℕ → List (List ℕ)
with_name names x = if is_among names x then names else names ++ x ∷ []

-- the names, and behind them those of the others that aren't there yet, each once
abbrev pub with_names : List (List ℕ) → List (List ℕ) → List (List ℕ)
with_names names [] = names
with_names names (x ∷ xs) = with_names (with_name names x) xs

-- the line of a name that is among these
abbrev pub repeat_of : List (List ℕ) → RawName → Option ℕ
repeat_of names name = if is_among names name.text then Some name.line else None
