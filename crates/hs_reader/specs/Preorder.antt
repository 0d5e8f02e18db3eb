-- A term as one list: each name with the number of its arguments, and behind it the arguments in order.
--     preorder, preorders    the nodes of a term, and of terms one after another
--     name_of                the name of a node
--     terms_at               the terms that nodes stand for, from the last node to the first
--     first_term             the first of them
--     behind                 the nodes behind it
--     BeginsTerm             the nodes begin with those of a term
use Rattle.std.specs.Prelude.{◌≡◌, List, [], ◌∷◌, ◌++◌, length, take, drop}
use Rattle.hs_scheme.specs.Tree.{Tree, Trees, node, none, more, forest, children}
use Rattle.hs_reader.specs.declared.raw.RawName.{RawName}
use Rattle.hs_reader.specs.declared.raw.RawNode.{RawNode}

abbrev mutual
  pub preorder : Tree RawName → List RawNode
  preorder (node head args) = record { text = head.text; line = head.line; args = length (children args) } ∷ preorders args

  pub preorders : Trees RawName → List RawNode
  preorders none = []
  preorders (more t ts) = preorder t ++ preorders ts

abbrev pub name_of : RawNode → RawName
name_of n = record { text = n.text; line = n.line }

abbrev pub terms_at : List RawNode → List (Tree RawName)
terms_at [] = []
terms_at (n ∷ ns) = node (name_of n) (forest (take n.args (terms_at ns))) ∷ drop n.args (terms_at ns)

abbrev pub first_of : List (Tree RawName) → Tree RawName
first_of [] = node (record { text = []; line = 0 }) none
first_of (t ∷ ts) = t

abbrev pub first_term : List RawNode → Tree RawName
first_term ns = first_of (terms_at ns)

abbrev pub behind : List RawNode → List RawNode
behind ns = drop (length (preorder (first_term ns))) ns

abbrev pub BeginsTerm : List RawNode → Type 0
BeginsTerm ns = ns ≡ preorder (first_term ns) ++ behind ns
