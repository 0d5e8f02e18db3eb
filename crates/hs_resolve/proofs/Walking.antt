-- The nodes of a term, one argument after another.
use Rattle.std.proofs.Common.{◌≡◌, ℕ, zero, suc, ◌+◌, ◌-◌, ◌<◌, ◌≤◌, ◌∙◌, Bool, true, false, cond, ap, sym, subst, refl, List, [], ◌∷◌, ◌++◌, length, take, drop, filter, get_or, slice_get, Some, arith}
use Rattle.std.proofs.lemmas.List.{append_assoc, length-drop, take_all}
use Rattle.std.proofs.Math.Seq.{take-length}
use Rattle.hs_scheme.specs.Tree.{Tree, node, forest, children, forest-children}
use Rattle.hs_reader.specs.declared.raw.RawName.{RawName}
use Rattle.hs_reader.specs.declared.raw.RawNode.{RawNode}
use Rattle.hs_reader.specs.Preorder.{preorder, preorders, name_of, first_term, behind, BeginsTerm}
use Rattle.hs_resolve.specs.Names.{with_name, with_names}
use Rattle.hs_reader.proofs.Nodes.{first-preorder, behind-preorder, begins-preorder}

abbrev pub arguments_of : Tree RawName → List (Tree RawName)
arguments_of (node head args) = children args

-- the first node, and those behind it
pub record IsOpened (ns : List RawNode) (n : RawNode) (rest : List RawNode) : Type 0 where
  pub term : first_term ns ≡ node (name_of n) (forest (arguments_of (first_term ns)))
  pub count : n.args ≡ length (arguments_of (first_term ns))
  pub behind : rest ≡ preorders (forest (arguments_of (first_term ns))) ++ behind ns

pub opened : (ns : List RawNode) (n : RawNode) (rest : List RawNode) → ns ≡ n ∷ rest → BeginsTerm ns → IsOpened ns n rest
opened ns n rest is begins = let o = go (first_term ns) (behind ns) (sym is ∙ begins) in record { term = o.0; count = o.1; behind = o.2 }
  where
    go : (t : Tree RawName) (later : List RawNode) → n ∷ rest ≡ preorder t ++ later
        → (t ≡ node (name_of n) (forest (arguments_of t))) × (n.args ≡ length (arguments_of t)) × (rest ≡ preorders (forest (arguments_of t)) ++ later)
    go (node head args) later e =
        let first : n ≡ record { text = head.text; line = head.line; args = length (children args) } = ap (λ (ms : List RawNode). get_or ms 0 n) e in
        ((λ i. node (name_of (sym first i)) (sym (forest-children args) i)), ap (λ (m : RawNode). m.args) first, ap (drop 1) e ∙ ap (λ ts. preorders ts ++ later) (sym (forest-children args)))

-- the next argument
pub record IsNext (ts : List (Tree RawName)) (i : ℕ) (later ns : List RawNode) : Type 0 where
  pub at : slice_get ts i ≡ Some (first_term ns)
  pub begins : BeginsTerm ns
  pub behind : behind ns ≡ preorders (forest (drop (i + 1) ts)) ++ later

pub next_argument : (ts : List (Tree RawName)) (i : ℕ) (later ns : List RawNode) → ns ≡ preorders (forest (drop i ts)) ++ later → i < length ts → IsNext ts i later ns
next_argument [] i later ns e lt = absurd (omega arith)
next_argument (t ∷ ts) zero later ns e lt =
    let rest = preorders (forest ts) ++ later in
    let is : ns ≡ preorder t ++ rest = e ∙ append_assoc (preorder t) (preorders (forest ts)) later in
    record {
      at = ap (λ (u : Tree RawName). Some u) (sym (ap first_term is ∙ first-preorder t rest));
      begins = subst BeginsTerm (sym is) (begins-preorder t rest);
      behind = ap behind is ∙ behind-preorder t rest;
    }
next_argument (t ∷ ts) (suc i) later ns e lt =
    let n = next_argument ts i later ns e (omega (arith, lt)) in
    let same : suc (i + 1) ≡ suc i + 1 = omega arith in
    record { at = n.at; begins = n.begins; behind = n.behind ∙ ap (λ (k : ℕ). preorders (forest (drop k (t ∷ ts))) ++ later) same }

pub next_shorter : (ns all new : List RawNode) → length ns < length all → new ≡ behind ns → length new < length all
next_shorter ns all new lt e = omega (arith, ap length e, length-drop (length (preorder (first_term ns))) ns)

pub front_of : (all : List RawNode) (n : RawNode) → 1 ≤ length all → n ≡ get_or all 0 n → all ≡ n ∷ take (length all - 1) (drop 1 all)
front_of [] n some e = absurd (omega arith)
front_of (x ∷ xs) n some e =
    let count : length (x ∷ xs) - 1 ≡ length xs = omega arith in λ i. sym e i ∷ sym (ap (λ (k : ℕ). take k xs) count ∙ take-length xs) i

-- the name at the front, and then those of the arguments
pub terminals-all : (p : List ℕ → Bool) (first head all : List (List ℕ)) (x : List ℕ) (xs : List (List ℕ)) → head ≡ cond (p x) (with_name first x) first → all ≡ with_names head (filter p xs) → all ≡ with_names first (filter p (x ∷ xs))
terminals-all p first head all x xs e f =
    f ∙ (ap (λ (ns : List (List ℕ)). with_names ns (filter p xs)) e
    ∙ elim (p x) as (λ b. with_names (cond b (with_name first x) first) (filter p xs) ≡ with_names first (cond b (x ∷ filter p xs) (filter p xs))) [
      | true ↦ refl
      | false ↦ refl
    ])

pub take_end : (ts : List (Tree RawName)) (i end : ℕ) → end ≤ i → end ≡ length ts → take i ts ≡ ts
take_end ts i end past count = take_all i ts (omega (arith, past, count))
