-- A list of nodes gives back the terms that it was made of.
use Rattle.std.proofs.Common.{◌≡◌, ℕ, ◌+◌, ◌∙◌, ap, sym, refl, List, [], ◌∷◌, ◌++◌, length, take, drop, slice_set, slice_get, get_or, length-append, ◌<◌, ◌≤◌, Some, subst, arith}
use Rattle.std.proofs.lemmas.List.{append_assoc, append-nil}
use Rattle.std.proofs.lemmas.Option.{same_Some, slice_get_read}
use Rattle.std.proofs.Math.Seq.{take-append_seam, drop-append_seam, set-append_seam}
use Rattle.hs_scheme.specs.Tree.{Tree, Trees, node, none, more, forest, children, forest-children}
use Rattle.hs_reader.specs.declared.raw.RawName.{RawName}
use Rattle.hs_reader.specs.declared.raw.RawNode.{RawNode}
use Rattle.hs_reader.specs.Grammar.{with_last, applied_to}
use Rattle.hs_reader.specs.Faults.{arguments}
use Rattle.hs_reader.specs.Preorder.{preorder, preorders, terms_at, first_of, first_term, behind, BeginsTerm}

mutual
  pub terms-preorder : (t : Tree RawName) (rest : List RawNode) → terms_at (preorder t ++ rest) ≡ t ∷ terms_at rest
  terms-preorder (node head args) rest =
      let all = terms-preorders args rest in
      let n = length (children args) in
      let some : take n (terms_at (preorders args ++ rest)) ≡ children args = ap (take n) all ∙ take-append_seam (children args) (terms_at rest) in
      let others : drop n (terms_at (preorders args ++ rest)) ≡ terms_at rest = ap (drop n) all ∙ drop-append_seam (children args) (terms_at rest) in
      λ i. node head ((ap forest some ∙ forest-children args) i) ∷ others i

  pub terms-preorders : (ts : Trees RawName) (rest : List RawNode) → terms_at (preorders ts ++ rest) ≡ children ts ++ terms_at rest
  terms-preorders none rest = refl
  terms-preorders (more t ts) rest =
      ap terms_at (append_assoc (preorder t) (preorders ts) rest) ∙ (terms-preorder t (preorders ts ++ rest) ∙ ap (λ us. t ∷ us) (terms-preorders ts rest))

pub first-preorder : (t : Tree RawName) (rest : List RawNode) → first_term (preorder t ++ rest) ≡ t
first-preorder t rest = ap first_of (terms-preorder t rest)

pub first-whole : (t : Tree RawName) → first_term (preorder t) ≡ t
first-whole t = ap first_term (sym (append-nil (preorder t))) ∙ first-preorder t []

pub behind-preorder : (t : Tree RawName) (rest : List RawNode) → behind (preorder t ++ rest) ≡ rest
behind-preorder t rest =
    ap (λ (u : Tree RawName). drop (length (preorder u)) (preorder t ++ rest)) (first-preorder t rest) ∙ drop-append_seam (preorder t) rest

pub begins-preorder : (t : Tree RawName) (rest : List RawNode) → BeginsTerm (preorder t ++ rest)
begins-preorder t rest = λ i. preorder (sym (first-preorder t rest) i) ++ sym (behind-preorder t rest) i

pub begins-whole : (t : Tree RawName) → BeginsTerm (preorder t)
begins-whole t = subst BeginsTerm (append-nil (preorder t)) (begins-preorder t [])

-- ---- one more argument

-- the first node of a term, and the nodes of a term whose head has one argument more
abbrev pub head_node : Tree RawName → RawNode
head_node (node head args) = record { text = head.text; line = head.line; args = length (children args) }

abbrev pub with_argument : List RawNode → List RawNode
with_argument [] = []
with_argument (n ∷ ns) = record { text = n.text; line = n.line; args = n.args + 1 } ∷ ns

pub last_count : (ts : Trees RawName) (u : Tree RawName) → length (children (with_last ts u)) ≡ length (children ts) + 1
last_count none u = omega arith
last_count (more t ts) u = omega (arith, last_count ts u)

last_nodes : (ts : Trees RawName) (u : Tree RawName) → preorders (with_last ts u) ≡ preorders ts ++ preorder u
last_nodes none u = append-nil (preorder u)
last_nodes (more t ts) u = ap (λ ns. preorder t ++ ns) (last_nodes ts u) ∙ sym (append_assoc (preorder t) (preorders ts) (preorder u))

pub applied-nodes : (t u : Tree RawName) → preorder (applied_to t u) ≡ with_argument (preorder t) ++ preorder u
applied-nodes (node head args) u = λ i. record { text = head.text; line = head.line; args = last_count args u i } ∷ last_nodes args u i

pub applied-count : (t u : Tree RawName) → arguments (applied_to t u) ≡ arguments t + 1
applied-count (node head args) u = last_count args u

pub some_node : (t : Tree RawName) → 1 ≤ length (preorder t)
some_node (node head args) = omega arith

-- the head of a term among other nodes, and a change of its number of arguments
head-is : (before after : List RawNode) (t : Tree RawName) → slice_get (before ++ (preorder t ++ after)) (length before) ≡ Some (head_node t)
head-is [] after (node head args) = refl
head-is (b ∷ before) after t = head-is before after t

module _ (all before after : List RawNode) (t : Tree RawName) (at : ℕ) (n : RawNode) (e : all ≡ before ++ (preorder t ++ after)) (l : length before ≡ at) (read : n ≡ get_or all at n) where
  within : at < length all
  within = omega (arith, ap length e, length-append before (preorder t ++ after), length-append (preorder t) after, some_node t, l)

  head-read : n ≡ head_node t
  head-read =
      same_Some n (head_node t) (sym (slice_get_read all (length all) at n refl within read) ∙ ((λ i. slice_get (e i) (sym l i)) ∙ head-is before after t))

  pub head-count : n.args ≡ arguments t
  head-count = ap (λ (m : RawNode). m.args) head-read ∙ count t
    where
      count : (t : Tree RawName) → (head_node t).args ≡ arguments t
      count (node head args) = refl

  pub head-changed : slice_set all at (record { text = n.text; line = n.line; args = n.args + 1 }) ≡ before ++ (with_argument (preorder t) ++ after)
  head-changed =
      (λ i. slice_set (e i) (sym l i) (record { text = (head-read i).text; line = (head-read i).line; args = (head-read i).args + 1 })) ∙ changed t
    where
      changed : (t : Tree RawName) → slice_set (before ++ (preorder t ++ after)) (length before) (record { text = (head_node t).text; line = (head_node t).line; args = (head_node t).args + 1 }) ≡ before ++ (with_argument (preorder t) ++ after)
      changed (node head args) = set-append_seam before (head_node (node head args)) (preorders args ++ after) _
