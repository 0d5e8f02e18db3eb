-- The value tree of a term, cut off after n steps of outermost reduction on each branch.
--     CutTree           a tree of terminals, of which a node may be undefined
--     unfolded          one replacement of a nonterminal at the front of a term
--     cut rules n t     the tree of t, cut at n
use Rattle.std.specs.Prelude.{ℕ, suc, zero, List, Option, Some, None, slice_get, length, take, drop, nat_le, if◌then◌else◌}
use Rattle.std.specs.Option.{option_map_or}
use Rattle.hs_scheme.specs.declared.term.Head.{Head}
use Rattle.hs_scheme.specs.declared.term.Head.TheVariants.{Var, Nt, Tm}
use Rattle.hs_scheme.specs.declared.term.Rule.{Rule}
use Rattle.hs_scheme.specs.Tree.{Tree, node, none, forest, children, each}
use Rattle.hs_scheme.specs.acceptance.Replacement.{subst, applied}

-- a terminal at each node, and nothing at an undefined one, which has no children
abbrev pub CutTree : Type 0
CutTree = Tree (Option ℕ)

abbrev pub undefined : CutTree
undefined = node None none

-- a rule's body with the first of these terms for its parameters, and the rest of them behind its arguments
abbrev pub body_of : Rule → List (Tree Head) → Tree Head
body_of rule ts = applied (subst rule.body (take rule.params ts)) (forest (drop rule.params ts))

-- so, where there are enough terms for the parameters
abbrev pub body_with : Option Rule → List (Tree Head) → Option (Tree Head)
body_with None ts = None
body_with (Some rule) ts = if nat_le rule.params (length ts) then Some (body_of rule ts) else None

-- what the nonterminal f with these arguments is replaced by, where it has as many as it has parameters, or more
abbrev pub unfolded : List Rule → ℕ → List (Tree Head) → Option (Tree Head)
unfolded rules f ts = body_with (slice_get rules f) ts

-- the first step of a term; `go` says what comes below it
abbrev pub step : List Rule → (Tree Head → CutTree) → Tree Head → CutTree
step rules go (node (Var j) ts) = undefined
step rules go (node (Nt f) ts) = option_map_or go (unfolded rules f (children ts)) undefined
step rules go (node (Tm a) ts) = node (Some a) (each go ts)

abbrev pub cut : List Rule → ℕ → Tree Head → CutTree
cut rules zero t = undefined
cut rules (suc n) t = step rules (cut rules n) t
