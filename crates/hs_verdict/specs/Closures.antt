-- Closures: points with closures for the parameters of their rules. And the configurations of a reduction in front: a closure with a stack
-- of closures, which are its further arguments.
--     Closure                a point with one closure for each parameter of its rule
--     argument_closures      the closures of a point's arguments, which stand under the same rule as the point
--     read                   the term that a closure stands for
--     stands_for             the term that a closure with a stack stands for
use Rattle.std.specs.Prelude.{ℕ, List, [], ◌∷◌, map}
use Rattle.hs_scheme.specs.declared.term.Head.{Head}
use Rattle.hs_scheme.specs.Tree.{Tree, Trees, node, none, more, forest}
use Rattle.hs_scheme.specs.acceptance.Replacement.{subst, applied}

abbrev pub Closure : Type 0
Closure = Tree ℕ

abbrev pub root : Closure → ℕ
root (node point cs) = point

abbrev pub argument_closures : List ℕ → Trees ℕ → List Closure
argument_closures args cs = map (λ a. node a cs) args

-- by the terms at the points
abbrev mutual
  pub read : (ℕ → Tree Head) → Closure → Tree Head
  read term (node point cs) = subst (term point) (reads term cs)

  pub reads : (ℕ → Tree Head) → Trees ℕ → List (Tree Head)
  reads term none = []
  reads term (more c cs) = read term c ∷ reads term cs

abbrev pub stands_for : (ℕ → Tree Head) → Closure → List Closure → Tree Head
stands_for term c ds = applied (read term c) (forest (map (read term) ds))
