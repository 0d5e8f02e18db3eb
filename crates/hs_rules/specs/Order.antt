-- The order of lists of places: they are compared place by place, a proper prefix first.
--     places_cmp             the order
--     chosen_places          the places of chosen arguments
--     IsLess, IsNoGreater    one list before another; not behind it
use Rattle.std.specs.Prelude.{◌≡◌, ◌≢◌, ℕ, List, map}
use Rattle.std.specs.Ordering.{nat_cmp}
use Rattle.std.specs.Cmp.Lexicographic.{slice_cmp}
use Rattle.std.specs.declared.cmp.Ordering.{Ordering}
use Rattle.std.specs.declared.cmp.Ordering.TheVariants.{Less, Greater}

abbrev pub places_cmp : List ℕ → List ℕ → Ordering
places_cmp xs ys = slice_cmp nat_cmp xs ys

abbrev pub chosen_places : List (ℕ × ℕ) → List ℕ
chosen_places args = map (λ a. a.1) args

abbrev pub IsLess : List ℕ → List ℕ → Type 0
IsLess xs ys = places_cmp xs ys ≡ Less

abbrev pub IsNoGreater : List ℕ → List ℕ → Type 0
IsNoGreater xs ys = places_cmp xs ys ≢ Greater
