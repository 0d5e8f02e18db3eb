-- Replacement of parameters by terms.
--     subst t ts     the term t with the terms ts for its parameters
use Rattle.std.specs.Prelude.{List, slice_get, unwrap_or}
use Rattle.hs_scheme.specs.declared.term.Head.{Head}
use Rattle.hs_scheme.specs.declared.term.Head.TheVariants.{Var, Nt, Tm}
use Rattle.hs_scheme.specs.Tree.{Tree, Trees, node, none, more, join}

-- what stands for a head: ts[j] for parameter j, and any other head for itself
abbrev pub replaced : Head → List (Tree Head) → Tree Head
replaced (Var j) ts = unwrap_or (slice_get ts j) (node (Var j) none)
replaced (Nt f) ts = node (Nt f) none
replaced (Tm a) ts = node (Tm a) none

-- a term applied to further arguments, which come after its own
abbrev pub applied : Tree Head → Trees Head → Tree Head
applied (node h us) vs = node h (join us vs)

abbrev mutual
  pub subst : Tree Head → List (Tree Head) → Tree Head
  subst (node h us) ts = applied (replaced h ts) (substs us ts)

  pub substs : Trees Head → List (Tree Head) → Trees Head
  substs none ts = none
  substs (more u us) ts = more (subst u ts) (substs us ts)
