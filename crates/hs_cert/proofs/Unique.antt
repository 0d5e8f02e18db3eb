-- The text of a type determines it, and where it ends; so does that of a set.
use Rattle.std.proofs.Common.{◌≡◌, refl, sym, ◌∙◌, ap, ℕ, ◌+◌, ◌<◌, ◌≤◌, true, false, List, [], ◌∷◌, ◌++◌, length, codes, Option, Some, None, arith}
use Rattle.hs_scheme.specs.Tree.{Tree, Trees, node, none, more, forest, height, heights}
use Rattle.hs_reader.specs.Tokens.{is_name_byte, EndsRun}
use Rattle.hs_table.specs.Types.{TypeTree, IsType, AreTypes}
use Rattle.hs_text.specs.Canonical.{name_at}
use Rattle.hs_cert.specs.Certificate.{AreNames}
use Rattle.hs_cert.specs.Front.{type_then, members_then, others_then}
use Rattle.hs_cert.proofs.Fronts.{first, behind_first, run_split, first_of_word, word_some, word_all, same_number}

module _ (names : List (List ℕ)) where
  -- ---- a set that is read type by type

  -- these types, each with a comma behind it
  abbrev pub listed_then : List TypeTree → List ℕ → List ℕ
  listed_then [] r = r
  listed_then (t ∷ ts) r = type_then names t (codes "," ++ listed_then ts r)

  pub listed_more : (ts : List TypeTree) (t : TypeTree) (r : List ℕ) → listed_then ts (type_then names t (codes "," ++ r)) ≡ listed_then (ts ++ t ∷ []) r
  listed_more [] t r = refl
  listed_more (u ∷ ts) t r = ap (λ (x : List ℕ). type_then names u (codes "," ++ x)) (listed_more ts t r)

  others_members : (ts : List TypeTree) (t : TypeTree) (r : List ℕ) → others_then names (forest (ts ++ t ∷ [])) r ≡ codes "," ++ members_then names (forest (ts ++ t ∷ [])) r
  others_members [] t r = refl
  others_members (u ∷ ts) t r = refl

  pub listed_all : (ts : List TypeTree) (t : TypeTree) (r : List ℕ) → listed_then ts (type_then names t (codes "}" ++ r)) ≡ members_then names (forest (ts ++ t ∷ [])) r
  listed_all [] t r = refl
  listed_all (u ∷ ts) t r =
      ap (λ (x : List ℕ). type_then names u (codes "," ++ x)) (listed_all ts t r) ∙ ap (type_then names u) (sym (others_members ts t r))

  -- what is left of a set behind some of its types
  pub record Left (ts s : List TypeTree) (bytes rest : List ℕ) : Type 0 where
    pub next : TypeTree
    pub others : List TypeTree
    pub split : s ≡ ts ++ next ∷ others
    pub spelled : bytes ≡ type_then names next (others_then names (forest others) rest)

  pub shape_at : (ts : List TypeTree) (t : TypeTree) (us : List TypeTree) → AreTypes (length names) (forest (ts ++ t ∷ us)) → IsType (length names) t
  shape_at [] t us a = a.0
  shape_at (u ∷ ts) t us a = shape_at ts t us a.1

  pub shapes_more : (ts : List TypeTree) (t : TypeTree) → AreTypes (length names) (forest ts) → IsType (length names) t → AreTypes (length names) (forest (ts ++ t ∷ []))
  shapes_more [] t a b = (b, tt)
  shapes_more (u ∷ ts) t a b = (a.0, shapes_more ts t a.1 b)

module _ (names : List (List ℕ)) (are : AreNames names) where
  -- a state doesn't begin with a sign
  state_not : (q c : ℕ) (r x : List ℕ) → q < length names → is_name_byte c ≡ false → name_at names q ++ r ≡ c ∷ x → ⊥
  state_not q c r x lt not e =
      let is = first_of_word (name_at names q) r x c (word_some names are q lt) (word_all names are q lt) e in
      let f : true ≡ false = sym is ∙ not in cc

  -- no type begins with a sign other than a brace
  pub type_not : (t : Tree (Option ℕ)) (c : ℕ) (r x : List ℕ) → IsType (length names) t → is_name_byte c ≡ false → (c ≡ 123 → ⊥) → type_then names t r ≡ c ∷ x → ⊥
  type_not (node (Some q) us) c r x a not brace e = state_not q c r x a.0 not e
  type_not (node None none) c r x a not brace e = absurd a
  type_not (node None (more t us)) c r x a not brace e = brace (sym (ap first e))

  pub others_end : (us : Trees (Option ℕ)) (r : List ℕ) → EndsRun (others_then names us r)
  others_end none r = refl
  others_end (more t us) r = refl

  mutual
    pub type_unique : (t u : Tree (Option ℕ)) (r s : List ℕ) → IsType (length names) t → IsType (length names) u → EndsRun r → EndsRun s
        → type_then names t r ≡ type_then names u s → (t ≡ u) × (r ≡ s)
    type_unique (node (Some q) us) (node (Some k) vs) r s a b er es e =
        let p = run_split (name_at names q) (name_at names k) r s (word_all names are q a.0) (word_all names are k b.0) er es e in
        (λ i. node (Some (same_number names are q k a.0 b.0 p.0 i)) ((a.1 ∙ sym b.1) i), p.1)
    type_unique (node (Some q) us) (node None none) r s a b er es e = absurd b
    type_unique (node (Some q) us) (node None (more u vs)) r s a b er es e = absurd (state_not q 123 r _ a.0 refl e)
    type_unique (node None none) u r s a b er es e = absurd a
    type_unique (node None (more t us)) (node (Some k) vs) r s a b er es e = absurd (state_not k 123 s _ b.0 refl (sym e))
    type_unique (node None (more t us)) (node None none) r s a b er es e = absurd b
    type_unique (node None (more t us)) (node None (more u vs)) r s a b er es e =
        let m = members_unique us vs (codes " -> " ++ type_then names t r) (codes " -> " ++ type_then names u s) a.2 b.2 (ap behind_first e) in
        let w = type_unique t u r s a.0 b.0 er es (ap (λ (x : List ℕ). behind_first (behind_first (behind_first (behind_first x)))) m.1) in
        (λ i. node None (more (w.0 i) (m.0 i)), w.1)

    pub members_unique : (us vs : Trees (Option ℕ)) (r s : List ℕ) → AreTypes (length names) us → AreTypes (length names) vs
        → members_then names us r ≡ members_then names vs s → (us ≡ vs) × (r ≡ s)
    members_unique none none r s a b e = (refl, ap behind_first e)
    members_unique none (more u vs) r s a b e = absurd (type_not u 125 (others_then names vs s) r b.0 refl (λ f. omega (arith, f)) (sym e))
    members_unique (more t us) none r s a b e = absurd (type_not t 125 (others_then names us r) s a.0 refl (λ f. omega (arith, f)) e)
    members_unique (more t us) (more u vs) r s a b e =
        let w = type_unique t u (others_then names us r) (others_then names vs s) a.0 b.0 (others_end us r) (others_end vs s) e in
        let o = others_unique us vs r s a.1 b.1 w.1 in (λ i. more (w.0 i) (o.0 i), o.1)

    others_unique : (us vs : Trees (Option ℕ)) (r s : List ℕ) → AreTypes (length names) us → AreTypes (length names) vs
        → others_then names us r ≡ others_then names vs s → (us ≡ vs) × (r ≡ s)
    others_unique none none r s a b e = (refl, ap behind_first e)
    others_unique none (more u vs) r s a b e = absurd (let f : 125 ≡ 44 = ap first e in omega (arith, f))
    others_unique (more t us) none r s a b e = absurd (let f : 44 ≡ 125 = ap first e in omega (arith, f))
    others_unique (more t us) (more u vs) r s a b e =
        let w = type_unique t u (others_then names us r) (others_then names vs s) a.0 b.0 (others_end us r) (others_end vs s) (ap behind_first e) in
        let o = others_unique us vs r s a.1 b.1 w.1 in (λ i. more (w.0 i) (o.0 i), o.1)

  pub left_of : (ts s : List TypeTree) (u : TypeTree) (bytes rest : List ℕ) → AreTypes (length names) (forest ts) → AreTypes (length names) (forest (u ∷ s))
      → listed_then names ts bytes ≡ type_then names u (others_then names (forest s) rest) → Left names ts (u ∷ s) bytes rest
  left_of [] s u bytes rest a b e = record { next = u; others = s; split = refl; spelled = e }
  left_of (t ∷ ts) [] u bytes rest a b e =
      let w = type_unique t u (codes "," ++ listed_then names ts bytes) (codes "}" ++ rest) a.0 b.0 refl refl e in
      absurd (let g : 44 ≡ 125 = ap first w.1 in omega (arith, g))
  left_of (t ∷ ts) (v ∷ s) u bytes rest a b e =
      let w = type_unique t u (codes "," ++ listed_then names ts bytes) (others_then names (forest (v ∷ s)) rest) a.0 b.0 refl refl e in
      let l = left_of ts s v bytes rest a.1 b.1 (ap behind_first w.1) in
      record { next = l.next; others = l.others; split = (λ i. sym w.0 i ∷ l.split i); spelled = l.spelled }

pub low_at : (ts : List TypeTree) (t : TypeTree) (us : List TypeTree) → height t + 1 ≤ heights (forest (ts ++ t ∷ us))
low_at [] t us = omega arith
low_at (u ∷ ts) t us = omega (arith, low_at ts t us)

pub low_more : (ts : List TypeTree) (t : TypeTree) (limit : ℕ) → heights (forest ts) ≤ limit → height t < limit → heights (forest (ts ++ t ∷ [])) ≤ limit
low_more [] t limit a b = omega (arith, b)
low_more (u ∷ ts) t limit a b = let rest : heights (forest ts) ≤ limit = omega (arith, a) in omega (arith, a, low_more ts t limit rest b)
