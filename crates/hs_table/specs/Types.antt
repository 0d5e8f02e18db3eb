-- Types of rejected terms.
--     TypeTree               a state, or an arrow from a finite set of types to a result
--     state, arrow, arrows   `q`; `s -> t`; `s1 -> .. -> sk -> t`
--     type_cmp               their order: states before arrows, by number; arrows by result, then by set, as lists, a proper prefix first
--     IsSet, IsType          a set is a strictly ascending list; so are all sets in a type, and its states are in range
use Rattle.std.specs.Prelude.{◌≡◌, ℕ, ◌<◌, List, [], ◌∷◌, Option, Some, None}
use Rattle.std.specs.Coded.{Coded, coded_ℕ, coded_option}
use Rattle.std.specs.Ordering.{nat_cmp, ordering_then}
use Rattle.std.specs.declared.cmp.Ordering.{Ordering}
use Rattle.std.specs.declared.cmp.Ordering.TheVariants.{Less, Equal, Greater}
use Rattle.hs_scheme.specs.Tree.{Tree, Trees, node, none, more, forest, children, tree_code}
use Rattle.hs_scheme.specs.flow.Flow.{IsAscending}

-- a leaf with a state; or, without one, the result and then the types of the set
abbrev pub TypeTree : Type 0
TypeTree = Tree (Option ℕ)

abbrev pub state : ℕ → TypeTree
state q = node (Some q) none

abbrev pub arrow : List TypeTree → TypeTree → TypeTree
arrow s t = node None (more t (forest s))

abbrev pub arrows : List (List TypeTree) → TypeTree → TypeTree
arrows [] t = t
arrows (s ∷ ss) t = arrow s (arrows ss t)

abbrev pub coded_type : Coded TypeTree
coded_type = tree_code (coded_option coded_ℕ)

-- a state comes before an arrow
abbrev pub label_cmp : Option ℕ → Option ℕ → Ordering
label_cmp (Some q) (Some p) = nat_cmp q p
label_cmp (Some q) None = Less
label_cmp None (Some p) = Greater
label_cmp None None = Equal

abbrev mutual
  pub type_cmp : Tree (Option ℕ) → Tree (Option ℕ) → Ordering
  type_cmp (node x ts) (node y us) = ordering_then (label_cmp x y) (types_cmp ts us)

  pub types_cmp : Trees (Option ℕ) → Trees (Option ℕ) → Ordering
  types_cmp none none = Equal
  types_cmp none (more u us) = Less
  types_cmp (more t ts) none = Greater
  types_cmp (more t ts) (more u us) = ordering_then (type_cmp t u) (types_cmp ts us)

abbrev pub IsSet : List TypeTree → Type 0
IsSet s = IsAscending type_cmp s

-- in shape, where the states are those below n
abbrev mutual
  pub IsType : ℕ → Tree (Option ℕ) → Type 0
  IsType n (node (Some q) us) = (q < n) × (us ≡ none)
  IsType n (node None us) = IsArrow n us

  pub IsArrow : ℕ → Trees (Option ℕ) → Type 0
  IsArrow n none = ⊥
  IsArrow n (more t us) = IsType n t × IsSet (children us) × AreTypes n us

  pub AreTypes : ℕ → Trees (Option ℕ) → Type 0
  AreTypes n none = Unit {0}
  AreTypes n (more t us) = IsType n t × AreTypes n us
