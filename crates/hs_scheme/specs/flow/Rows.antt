-- How points are kept: the arguments of all in one list, in which each point has a range, and for each point whose argument it is.
--     point_of args row     the point of a row
--     rules_places rules    for each point of the rules the point of which it is an argument, and the place there
use Rattle.std.specs.Prelude.{◌≡◌, ℕ, ◌+◌, ◌≤◌, List, [], ◌∷◌, ◌++◌, All, map, length, slice_get, slice_range, Option, Some, None, ◌↔◌}
use Rattle.hs_scheme.specs.declared.term.Head.{Head}
use Rattle.hs_scheme.specs.declared.term.Rule.{Rule}
use Rattle.hs_scheme.specs.declared.points.Argument.{Argument}
use Rattle.hs_scheme.specs.declared.points.Row.{Row}
use Rattle.hs_scheme.specs.Tree.{Tree, Trees, node, none, more}
use Rattle.hs_scheme.specs.flow.Points.{PointData, PointsData, IsPoints, IsArgument, size}

abbrev pub point_of : List ℕ → Row → PointData
point_of args row = record { rule = row.rule; head = row.head; args = slice_range args row.from row.to }

abbrev pub points_in : List ℕ → List Row → List PointData
points_in args rows = map (point_of args) rows

abbrev pub places_in : List Row → List (Option Argument)
places_in rows = map (λ row. row.argument) rows

-- the row's range is one of the list of arguments
pub record Fits (args : List ℕ) (row : Row) : Type 0 where
  pub up : row.from ≤ row.to
  pub within : row.to ≤ length args

-- whose argument each point is
abbrev pub ArePlacesOfArguments : PointsData → List (Option Argument) → Type 0
ArePlacesOfArguments points places = (a q i : ℕ) → (slice_get places a ≡ Some (Some (record { point = q; place = i }))) ↔ IsArgument points q i a

pub record AreRows (rows : List Row) (args : List ℕ) (points : PointsData) : Type 0 where
  pub are_points : IsPoints points
  pub ranges : All (Fits args) rows
  pub places : ArePlacesOfArguments points (places_in rows)

-- for the points of a term, at n, which is itself an argument or none, and of terms that stand side by side, from the argument at i of q on
abbrev mutual
  pub term_places : Option Argument → ℕ → Tree Head → List (Option Argument)
  term_places argument n (node h ts) = argument ∷ terms_places n 0 (n + 1) ts

  pub terms_places : ℕ → ℕ → ℕ → Trees Head → List (Option Argument)
  terms_places q i n none = []
  terms_places q i n (more t ts) = term_places (Some (record { point = q; place = i })) n t ++ terms_places q (i + 1) (n + size t) ts

abbrev pub rules_places : ℕ → List Rule → List (Option Argument)
rules_places n [] = []
rules_places n (r ∷ rules) = term_places None n r.body ++ rules_places (n + size r.body) rules
