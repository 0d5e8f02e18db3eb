-- The terms begun, and what reading a name or a parenthesis makes of them.
use Rattle.std.proofs.Common.{◌≡◌, ℕ, suc, ◌+◌, ◌<◌, ◌∙◌, false, ap, sym, subst, refl, List, [], ◌∷◌, ◌++◌, length, take, drop, slice_set, get_or, reverse, Option, Some, None, is_none, arith}
use Rattle.std.specs.List.{AllByRecursion}
use Rattle.std.proofs.lemmas.List.{append_assoc, append-nil, reverse-append, length-reverse}
use Rattle.std.specs.Option.{option_map}
use Rattle.std.proofs.lemmas.Bool.{eqb-false}
use Rattle.std.proofs.Math.Seq.{take-append_seam, drop-append_seam}
use Rattle.hs_scheme.specs.Tree.{Tree, node}
use Rattle.hs_reader.specs.declared.raw.RawName.{RawName}
use Rattle.hs_reader.specs.declared.raw.RawNode.{RawNode}
use Rattle.hs_reader.specs.Raw.{Rule}
use Rattle.hs_reader.specs.Grammar.{applied_to}
use Rattle.hs_reader.specs.Faults.{arguments}
use Rattle.hs_reader.specs.ReadingStages.{in_body, closes, leaf, added, is_full}
use Rattle.hs_reader.specs.Preorder.{preorder}
use Rattle.hs_reader.specs.Building.{Begun, nodes_of, term_at, terms_from, begun_at, AreBegun, HasRoomFor, IsWide, IsBuilding}
use Rattle.hs_reader.proofs.Nodes.{first-whole, applied-nodes, applied-count, head-count, head-changed}

-- ---- what lies in memory gives back the terms

term-at : (t : Option (Tree RawName)) → term_at (nodes_of t) ≡ t
term-at None = refl
term-at (Some (node head args)) = ap (λ (u : Tree RawName). Some u) (first-whole (node head args))

front-of : (ns before : List RawNode) (t : Option (Tree RawName)) (at : ℕ) → ns ≡ before ++ nodes_of t → length before ≡ at → take at ns ≡ before
front-of ns before t at e l = ap (λ (k : ℕ). take k ns) (sym l) ∙ (ap (take (length before)) e ∙ take-append_seam before (nodes_of t))

term-of : (ns before : List RawNode) (t : Option (Tree RawName)) (at : ℕ) → ns ≡ before ++ nodes_of t → length before ≡ at → term_at (drop at ns) ≡ t
term-of ns before t at e l = ap term_at (ap (λ (k : ℕ). drop k ns) (sym l) ∙ (ap (drop (length before)) e ∙ drop-append_seam before (nodes_of t))) ∙ term-at t

terms-from : (ns : List RawNode) (starts : List ℕ) (ts : List (Option (Tree RawName))) → AreBegun ns starts ts → terms_from ns starts ≡ ts
terms-from ns [] [] h = refl
terms-from ns (at ∷ starts) (t ∷ ts) h =
    let front = front-of ns h.0 t at h.1 h.2 in
    λ i. term-of ns h.0 t at h.1 h.2 i ∷ (ap (λ (ms : List RawNode). terms_from ms starts) front ∙ terms-from h.0 starts ts h.3) i
terms-from ns [] (t ∷ ts) h = absurd h
terms-from ns (at ∷ starts) [] h = absurd h

terms-count : (ns : List RawNode) (starts : List ℕ) → length (terms_from ns starts) ≡ length starts
terms-count ns [] = refl
terms-count ns (at ∷ starts) = ap (λ (k : ℕ). suc k) (terms-count (take at ns) starts)

pub depth-is : (ns : List RawNode) (places : List ℕ) (start : ℕ) (b : Begun) → begun_at ns places start ≡ b → length places ≡ length b.outer
depth-is ns places start b e =
    sym (length-reverse places) ∙ (sym (terms-count (take start ns) (reverse places)) ∙ ap (λ (c : Begun). length c.outer) e)

module _ (ns : List RawNode) (places : List ℕ) (start : ℕ) (b : Begun) (h : IsBuilding ns places start b) where
  pub begun_is : begun_at ns places start ≡ b
  begun_is =
      let l = h.are in
      let front = front-of ns l.0 b.top start l.1 l.2 in
      λ i. record { outer = (ap (λ (ms : List RawNode). terms_from ms (reverse places)) front ∙ terms-from l.0 (reverse places) b.outer l.3) i; top = term-of ns l.0 b.top start l.1 l.2 i }

  pub remains : IsBuilding ns places start (begun_at ns places start)
  remains = subst (IsBuilding ns places start) (sym begun_is) h

  -- a name behind a term
  module _ (name : RawName) (leaf_node n : RawNode) (all : List RawNode) (room : is_full b.top ≡ false) (other : is_none b.top ≡ false) (is : leaf_node ≡ record { text = name.text; line = name.line; args = 0 }) (e : all ≡ ns ++ leaf_node ∷ []) (read : n ≡ get_or all start n) where
    laid : (t : Tree RawName) → ns ≡ h.are.0 ++ preorder t → all ≡ h.are.0 ++ (preorder t ++ preorder (leaf name))
    laid t f = e ∙ ((λ i. f i ++ (is i ∷ [])) ∙ append_assoc h.are.0 (preorder t) (preorder (leaf name)))

    pub next-added : IsBuilding (slice_set all start (record { text = n.text; line = n.line; args = n.args + 1 })) places start (record { outer = b.outer; top = Some (added b.top (leaf name)) })
    next-added = go b.top h.are.1 h.wide room other
      where
        go : (t : Option (Tree RawName)) → ns ≡ h.are.0 ++ nodes_of t → IsWide t → is_full t ≡ false → is_none t ≡ false
            → IsBuilding (slice_set all start (record { text = n.text; line = n.line; args = n.args + 1 })) places start (record { outer = b.outer; top = Some (added t (leaf name)) })
        go None f wide room some = absurd cc
        go (Some t) f wide room some = record {
          are = (h.are.0, head-changed all h.are.0 (preorder (leaf name)) t start n (laid t f) h.are.2 read ∙ ap (λ (ms : List RawNode). h.are.0 ++ ms) (sym (applied-nodes t (leaf name))), h.are.2, h.are.3);
          wide = let ne = eqb-false (arguments t) 64 room in omega (arith, applied-count t (leaf name), wide);
          room = h.room;
        }

  -- a term, and no open parenthesis
  pub whole : length b.outer ≡ 0 → is_none b.top ≡ false → (t : Tree RawName) × (b.top ≡ Some t) × (b.outer ≡ []) × (ns ≡ preorder t)
  whole outside some = go b.top b.outer (reverse places) h.are outside some
    where
      go : (top : Option (Tree RawName)) (outer : List (Option (Tree RawName))) (starts : List ℕ) → AreBegun ns (start ∷ starts) (top ∷ outer) → length outer ≡ 0 → is_none top ≡ false
          → (t : Tree RawName) × (top ≡ Some t) × (outer ≡ []) × (ns ≡ preorder t)
      go None outer starts l outside some = absurd cc
      go (Some t) [] [] l outside some = (t, refl, refl, l.1 ∙ ap (λ (ms : List RawNode). ms ++ preorder t) l.3)
      go (Some t) [] (at ∷ starts) l outside some = absurd l.3
      go (Some t) (u ∷ us) starts l outside some = absurd (omega arith)

-- ---- a closing parenthesis

-- the terms begun behind the outermost, where one is begun in each
abbrev pub closed : List (Option (Tree RawName)) → Option (Tree RawName) → Option Begun
closed outer None = None
closed [] (Some t) = None
closed (below ∷ outer) (Some t) = Some (record { outer = outer; top = Some (added below t) })

pub closed-stage : (rs : List Rule) (n : RawName) (ps : List RawName) (outer : List (Option (Tree RawName))) (t : Option (Tree RawName)) → closes rs n ps outer t ≡ option_map (λ b. in_body rs n ps b.outer b.top) (closed outer t)
closed-stage rs n ps outer None = refl
closed-stage rs n ps [] (Some t) = refl
closed-stage rs n ps (below ∷ outer) (Some t) = refl

module _ (ns : List RawNode) (places others : List ℕ) (start at : ℕ) (b : Begun) (h : IsBuilding ns places start b) (split : places ≡ others ++ at ∷ []) (some : is_none b.top ≡ false) where
  are : AreBegun ns (start ∷ (at ∷ reverse others)) (b.top ∷ b.outer)
  are = subst (λ (ps : List ℕ). AreBegun ns (start ∷ ps) (b.top ∷ b.outer)) (ap reverse split ∙ reverse-append others (at ∷ [])) h.are

  -- one is, and gets an argument
  module _ (n : RawNode) (read : n ≡ get_or ns at n) (differ : at ≡ start → ⊥) where
    abbrev grown : List RawNode
    grown = slice_set ns at (record { text = n.text; line = n.line; args = n.args + 1 })

    pub more-closed : (c : Begun) × (closed b.outer b.top ≡ Some c) × IsBuilding grown others at c × (n.args < 64)
    more-closed = go b.top b.outer are h.room some
      where
        go : (t : Option (Tree RawName)) (outer : List (Option (Tree RawName))) → AreBegun ns (start ∷ (at ∷ reverse others)) (t ∷ outer) → AllByRecursion HasRoomFor outer → is_none t ≡ false
            → (c : Begun) × (closed outer t ≡ Some c) × IsBuilding grown others at c × (n.args < 64)
        go None outer h room some = absurd cc
        go (Some t) [] h room some = absurd h.3
        go (Some t) (None ∷ outer) h room some =
            let front = h.3 in absurd (differ (sym front.2 ∙ (sym (ap length (front.1 ∙ append-nil front.0)) ∙ h.2)))
        go (Some t) (Some u ∷ outer) h room some =
            let front = h.3 in
            let all : ns ≡ front.0 ++ (preorder u ++ preorder t) = h.1 ∙ (ap (λ (ms : List RawNode). ms ++ preorder t) front.1 ∙ append_assoc front.0 (preorder u) (preorder t)) in
            let count = head-count ns front.0 (preorder t) u at n all front.2 read in (
              record { outer = outer; top = Some (applied_to u t) },
              refl,
              record {
                are = (front.0, head-changed ns front.0 (preorder t) u at n all front.2 read ∙ ap (λ (ms : List RawNode). front.0 ++ ms) (sym (applied-nodes u t)), front.2, front.3);
                wide = omega (arith, applied-count u t, room.0);
                room = room.1;
              },
              omega (arith, count, room.0),
            )
