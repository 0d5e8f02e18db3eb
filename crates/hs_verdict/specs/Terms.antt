-- The terms at the points.
--     subterms           a term and all that stands in it as an argument, in preorder
--     term_at rules n    the term at point n
use Rattle.std.specs.Prelude.{ℕ, List, [], ◌∷◌, ◌++◌, get_or}
use Rattle.hs_scheme.specs.declared.term.Head.{Head}
use Rattle.hs_scheme.specs.declared.term.Head.TheVariants.{Nt}
use Rattle.hs_scheme.specs.declared.term.Rule.{Rule}
use Rattle.hs_scheme.specs.Tree.{Tree, Trees, node, none, more}

abbrev mutual
  pub subterms : Tree Head → List (Tree Head)
  subterms (node h ts) = node h ts ∷ subterms_row ts

  pub subterms_row : Trees Head → List (Tree Head)
  subterms_row none = []
  subterms_row (more t ts) = subterms t ++ subterms_row ts

abbrev pub terms_of : List Rule → List (Tree Head)
terms_of [] = []
terms_of (r ∷ rules) = subterms r.body ++ terms_of rules

abbrev pub term_at : List Rule → ℕ → Tree Head
term_at rules point = get_or (terms_of rules) point (node (Nt 0) none)
