-- Finite trees of any width: what contracts see of a type that holds a `Vec` of itself.
--     Tree A, Trees A     a node with a label and its children; the children, in order
--     forest, children    from a list of trees to children and back; each undoes the other
--     join, each          two rows of children as one; a tree for each child
--     height              the longest way down, 0 at a leaf
--     tree_code           the code of trees, from that of the labels
use Rattle.std.specs.Prelude.{◌≡◌, refl, ℕ, ◌+◌, ◌≤◌, List, [], ◌∷◌, ◌++◌, map, max}
use Rattle.std.proofs.Common.{ap, subst, sym, arith}
use Rattle.std.specs.Coded.{Coded}
use base.Stored.{Gv, gnil, gcons}
use denote.Param.Weighed.{most}

mutual
  pub data Tree (A : Type 0) : Type 0 where
    node : A → Trees A → Tree A

  pub data Trees (A : Type 0) : Type 0 where
    none : Trees A
    more : Tree A → Trees A → Trees A

abbrev pub forest : {A : Type 0} → List (Tree A) → Trees A
forest [] = none
forest (t ∷ ts) = more t (forest ts)

abbrev pub children : {A : Type 0} → Trees A → List (Tree A)
children none = []
children (more t ts) = t ∷ children ts

pub children-forest : {A : Type 0} (ts : List (Tree A)) → children (forest ts) ≡ ts
children-forest [] = refl
children-forest (t ∷ ts) = ap (λ us. t ∷ us) (children-forest ts)

pub forest-children : {A : Type 0} (ts : Trees A) → forest (children ts) ≡ ts
forest-children none = refl
forest-children (more t ts) = ap (more t) (forest-children ts)

-- two rows of children, one after the other
abbrev pub join : {A : Type 0} → Trees A → Trees A → Trees A
join none vs = vs
join (more u us) vs = more u (join us vs)

-- a tree for each of the children
abbrev pub each : {A B : Type 0} → (Tree A → Tree B) → Trees A → Trees B
each f none = none
each f (more t ts) = more (f t) (each f ts)

pub forest-append : {A : Type 0} (us vs : List (Tree A)) → forest (us ++ vs) ≡ join (forest us) (forest vs)
forest-append [] vs = refl
forest-append (u ∷ us) vs = ap (more u) (forest-append us vs)

pub each-forest : {A B : Type 0} (f : Tree A → Tree B) (ts : List (Tree A)) → each f (forest ts) ≡ forest (map f ts)
each-forest f [] = refl
each-forest f (t ∷ ts) = ap (more (f t)) (each-forest f ts)

abbrev mutual
  pub height : {A : Type 0} → Tree A → ℕ
  height (node a ts) = heights ts

  pub heights : {A : Type 0} → Trees A → ℕ
  heights none = 0
  heights (more t ts) = max (height t + 1) (heights ts)

-- no child is as high as its parent
pub most_le-heights : {A : Type 0} (ts : List (Tree A)) → most (λ t. height t + 1) ts ≤ heights (forest ts)
most_le-heights [] = omega arith
most_le-heights (t ∷ ts) = omega (arith, most_le-heights ts)

abbrev label : {A : Type 0} → Tree A → A
label (node a ts) = a

abbrev below : {A : Type 0} → Tree A → Trees A
below (node a ts) = ts

mutual
  pub tree_gv : {A : Type 0} → (A → Gv) → Tree A → Gv
  tree_gv c (node a ts) = gcons (c a) (trees_gv c ts)

  pub trees_gv : {A : Type 0} → (A → Gv) → Trees A → Gv
  trees_gv c none = gnil
  trees_gv c (more t ts) = gcons (tree_gv c t) (trees_gv c ts)

abbrev gv_head : Gv → Gv
gv_head (gcons a b) = a
gv_head g = gnil

abbrev gv_tail : Gv → Gv
gv_tail (gcons a b) = b
gv_tail g = gnil

abbrev gv_is_cons : Gv → Type 0
gv_is_cons (gcons a b) = Unit {0}
gv_is_cons g = ⊥

module _ {A : Type 0} (c : Coded A) where
  mutual
    unfolding tree_gv

    pub tree_inj : (s t : Tree A) → tree_gv c.code s ≡ tree_gv c.code t → s ≡ t
    tree_inj (node a ss) (node b ts) p = λ i. node (c.inj a b (ap gv_head p) i) (trees_inj ss ts (ap gv_tail p) i)

    pub trees_inj : (s t : Trees A) → trees_gv c.code s ≡ trees_gv c.code t → s ≡ t
    trees_inj none none p = refl
    trees_inj (more s ss) (more t ts) p = λ i. more (tree_inj s t (ap gv_head p) i) (trees_inj ss ts (ap gv_tail p) i)
    trees_inj none (more t ts) p = absurd (subst gv_is_cons (sym p) tt)
    trees_inj (more s ss) none p = absurd (subst gv_is_cons p tt)

  abbrev pub tree_code : Coded (Tree A)
  tree_code = record { code = tree_gv c.code; inj = tree_inj }
