-- What stands under numbers: it stays as more comes, and what look-ups find of it.
use Rattle.std.proofs.Common.{◌≡◌, refl, sym, ◌∙◌, ap, subst as along, ℕ, zero, suc, ◌+◌, ◌-◌, ◌<◌, ◌≤◌, if◌then◌else◌, true, false, List, [], ◌∷◌, ◌++◌, length, drop, get_or, map, eqb, slice_get, Some, None, arith}
use Rattle.std.specs.Ordering.{is_eq}
use Rattle.std.proofs.lemmas.Bool.{eqb-true, eq-eqb}
use Rattle.std.proofs.lemmas.List.{drop_more, drop_all}
use Rattle.std.proofs.lemmas.Option.{same_Some}
use Rattle.hs_scheme.proofs.Lists.{at_append, slice_get-push, back_at}
use Rattle.hs_table.specs.Types.{TypeTree, type_cmp}
use Rattle.hs_types.specs.Interned.{InternerData, IsInterner, type_of_id, Begins}
use Rattle.hs_types.proofs.Numbers.{same_type}
use Rattle.hs_verdict.specs.Evidence.{Evidence, Packs, Pack, evidence, no_packs, put, empty, also, no_evidence, first, pack_at, pick}
use Rattle.hs_verdict.proofs.Realizing.{equal_same, same_equal}
use Rattle.hs_path.specs.declared.evidence.Span.{Span}
use Rattle.hs_path.specs.declared.evidence.Node.{Node}
use Rattle.hs_path.specs.declared.evidence.Store.{Store}
use Rattle.hs_path.specs.Stored.{Stands, Piled, Members, IsNode, IsPack, GrowsStore}

at_behind : (front numbers : List ℕ) (n at x : ℕ) → length front ≡ n → slice_get numbers at ≡ Some x → slice_get (front ++ numbers) (n + at) ≡ Some x
at_behind front numbers n at x long e = let same : length front + at ≡ n + at = omega (arith, long) in ap (λ k. slice_get (front ++ numbers) k) (sym same) ∙ (back_at front numbers at ∙ e)

pub begins_refl : {X : Type 0} (xs : List X) → Begins xs xs
begins_refl xs = λ i x e. e

pub begins_more : {X : Type 0} (xs ys : List X) → Begins xs (xs ++ ys)
begins_more xs ys = λ i x e. at_append xs ys i x e

pub begins_same : {X : Type 0} (xs ys : List X) → xs ≡ ys → Begins xs ys
begins_same xs ys e = λ i x h. sym (ap (λ l. slice_get l i) e) ∙ h

pub grows_refl : (s : Store) → GrowsStore s s
grows_refl s = record { nodes = begins_refl s.nodes.items; owns = begins_refl s.owns.items; packs = begins_refl s.packs.items; members = begins_refl s.members.items }

pub grows_then : (a b c : Store) → GrowsStore a b → GrowsStore b c → GrowsStore a c
grows_then a b c g h = record {
  nodes = λ i x e. h.nodes i x (g.nodes i x e);
  owns = λ i x e. h.owns i x (g.owns i x e);
  packs = λ i x e. h.packs i x (g.packs i x e);
  members = λ i x e. h.members i x (g.members i x e);
}

abbrev pub tail : Pack → Pack
tail empty = empty
tail (also e pack) = pack

module _ (bound : ℕ) (old new : Store) (g : GrowsStore old new) where
  mutual
    pub stands_grow : (number : ℕ) (e : Evidence) → Stands bound old number e → Stands bound new number e
    stands_grow number (evidence place own) (n, at, is, within, packs) =
        (n, g.nodes number n at, is, within, piled_grow number number old.owns.items new.owns.items n.own.from n.own.to own (omega arith) g.owns packs)

    pub piled_grow : (below more_ : ℕ) (numbers longer : List ℕ) (from to : ℕ) (packs : Packs) → below ≤ more_ → Begins numbers longer
        → Piled bound old below numbers from to packs → Piled bound new more_ longer from to packs
    piled_grow below more_ numbers longer from to no_packs le b h = h
    piled_grow below more_ numbers longer from to (put pack packs) le b (at, number, span, e, is, there, members, rest) = (
      at,
      number,
      span,
      e,
      b at number is,
      g.packs number span there,
      members_grow below more_ span.from span.to pack le members,
      piled_grow below more_ numbers longer from at packs le b rest,
    )

    pub members_grow : (below more_ from to : ℕ) (pack : Pack) → below ≤ more_ → Members bound old below from to pack → Members bound new more_ from to pack
    members_grow below more_ from to empty le h = h
    members_grow below more_ from to (also e pack) le (at, number, is, there, lower, stands, rest) =
        (at, number, is, g.members at number there, omega arith, stands_grow number e stands, members_grow below more_ from at pack le rest)

  pub pack_grows : (below more_ number : ℕ) (pack : Pack) → below ≤ more_ → IsPack bound old below number pack → IsPack bound new more_ number pack
  pack_grows below more_ number pack le h =
      record { span = h.span; at = g.packs number h.span h.at; members = members_grow below more_ h.span.from h.span.to pack le h.members }

module _ (bound : ℕ) (s : Store) where
  pub stands_node : (number : ℕ) (e : Evidence) → Stands bound s number e → (n : Node) × (slice_get s.nodes.items number ≡ Some n) × IsNode bound s number n e
  stands_node number (evidence place own) (n, at, is, within, packs) =
      (n, at, record { own = own; is = ap (λ i. evidence i own) (sym is); within = along (λ i. i < bound) (sym is) within; packs = packs })

  module _ (below : ℕ) where
    pub piled_ordered : (numbers : List ℕ) (from to : ℕ) (packs : Packs) → Piled bound s below numbers from to packs → from ≤ to
    piled_ordered numbers from to no_packs e = omega (arith, e)
    piled_ordered numbers from to (put pack packs) (at, number, span, e, is, there, members, rest) =
        omega (arith, e, piled_ordered numbers from at packs rest)

    -- the numbers behind others
    pub piled_behind : (front numbers : List ℕ) (n from to : ℕ) (packs : Packs) → length front ≡ n → Piled bound s below numbers from to packs
        → Piled bound s below (front ++ numbers) (n + from) (n + to) packs
    piled_behind front numbers n from to no_packs long e = ap (λ k. n + k) e
    piled_behind front numbers n from to (put pack packs) long (at, number, span, e, is, there, members, rest) = (
      n + at,
      number,
      span,
      omega (arith, e),
      at_behind front numbers n at number long is,
      there,
      members,
      piled_behind front numbers n from at packs long rest,
    )

    -- at this place of the numbers stands that of the pack
    abbrev pub HasPackAt : List ℕ → ℕ → Pack → Type 0
    HasPackAt numbers at pack = (number : ℕ) × (slice_get numbers at ≡ Some number) × IsPack bound s below number pack

    pub piled_at : (numbers : List ℕ) (from to : ℕ) (packs : Packs) (place : ℕ) → Piled bound s below numbers from to packs → from + place < to
        → HasPackAt numbers (to - 1 - place) (pack_at packs place)
    piled_at numbers from to no_packs place e lt = absurd (omega (arith, e))
    piled_at numbers from to (put pack packs) zero (at, number, span, e, is, there, members, rest) lt =
        let same : at ≡ to - 1 - 0 = omega (arith, e) in
        (number, along (λ k. slice_get numbers k ≡ Some number) same is, record { span = span; at = there; members = members })
    piled_at numbers from to (put pack packs) (suc place) (at, number, span, e, is, there, members, rest) lt =
        let same : at - 1 - place ≡ to - 1 - suc place = omega (arith, e) in
        along (λ k. HasPackAt numbers k (pack_at packs place)) same (piled_at numbers from at packs place rest (omega (arith, e)))

    pub piled_past : (numbers : List ℕ) (from to : ℕ) (packs : Packs) (place : ℕ) → Piled bound s below numbers from to packs → to ≤ from + place → pack_at packs place ≡ empty
    piled_past numbers from to no_packs place e le = refl
    piled_past numbers from to (put pack packs) zero (at, number, span, e, is, there, members, rest) le =
        absurd (omega (arith, e, piled_ordered numbers from at packs rest))
    piled_past numbers from to (put pack packs) (suc place) (at, number, span, e, is, there, members, rest) le =
        piled_past numbers from at packs place rest (omega (arith, e))

    pub members_ordered : (from to : ℕ) (pack : Pack) → Members bound s below from to pack → from ≤ to
    members_ordered from to empty e = omega (arith, e)
    members_ordered from to (also ev pack) (at, number, e, there, lower, stands, rest) = omega (arith, e, members_ordered from at pack rest)

    pub first_none : (from to : ℕ) (pack : Pack) → Members bound s below from to pack → to ≤ from → first pack ≡ no_evidence
    first_none from to empty e le = refl
    first_none from to (also ev pack) (at, number, e, there, lower, stands, rest) le = absurd (omega (arith, e, members_ordered from at pack rest))

    pub first_some : (from to : ℕ) (pack : Pack) → Members bound s below from to pack → from < to
        → (number : ℕ) × (slice_get s.members.items (to - 1) ≡ Some number) × (number < below) × Stands bound s number (first pack)
    first_some from to empty e lt = absurd (omega (arith, e))
    first_some from to (also ev pack) (at, number, e, there, lower, stands, rest) lt =
        let same : at ≡ to - 1 = omega (arith, e) in (number, along (λ k. slice_get s.members.items k ≡ Some number) same there, lower, stands)

    pub tail_some : (from to : ℕ) (pack : Pack) → Members bound s below from to pack → from < to → Members bound s below from (to - 1) (tail pack)
    tail_some from to empty e lt = absurd (omega (arith, e))
    tail_some from to (also ev pack) (at, number, e, there, lower, stands, rest) lt =
        let same : at ≡ to - 1 = omega (arith, e) in along (λ k. Members bound s below from k pack) same rest

    pub tail_none : (from to : ℕ) (pack : Pack) → Members bound s below from to pack → to ≤ from → Members bound s below from to (tail pack)
    tail_none from to empty e le = e
    tail_none from to (also ev pack) (at, number, e, there, lower, stands, rest) le = absurd (omega (arith, e, members_ordered from at pack rest))

  -- what `get` finds
  pub node_got : (number : ℕ) (e : Evidence) (n : Node) → Stands bound s number e → slice_get s.nodes.items number ≡ Some n → IsNode bound s number n e
  node_got number e n h at =
      let r = stands_node number e h in along (λ (x : Node). IsNode bound s number x e) (same_Some r.0 n (sym r.1 ∙ at)) r.2

  pub node_missed : (number : ℕ) (e : Evidence) → Stands bound s number e → slice_get s.nodes.items number ≡ None → ⊥
  node_missed number e h at = let r = stands_node number e h in absurd (let clash : Some r.0 ≡ None = sym r.1 ∙ at in cc)

  pub pack_got : (below number : ℕ) (pack : Pack) (span : Span) → IsPack bound s below number pack → slice_get s.packs.items number ≡ Some span → Members bound s below span.from span.to pack
  pack_got below number pack span h at = along (λ (x : Span). Members bound s below x.from x.to pack) (same_Some h.span span (sym h.at ∙ at)) h.members

  pub pack_missed : (below number : ℕ) (pack : Pack) → IsPack bound s below number pack → slice_get s.packs.items number ≡ None → ⊥
  pack_missed below number pack h at = absurd (let clash : Some h.span ≡ None = sym h.at ∙ at in cc)

-- a pick looks at the first evidence and then at the others
pub pick_here : (a b : TypeTree) (s : List TypeTree) (p : Pack) → is_eq (type_cmp a b) ≡ true → pick (b ∷ s) p a ≡ first p
pick_here a b s empty e = refl
pick_here a b s (also ev p) e = ap (λ c. if c then ev else pick s p a) e

pick_empty : (s : List TypeTree) (a : TypeTree) → pick s empty a ≡ no_evidence
pick_empty [] a = refl
pick_empty (b ∷ s) a = refl

pub pick_other : (a b : TypeTree) (s : List TypeTree) (p : Pack) → is_eq (type_cmp a b) ≡ false → pick (b ∷ s) p a ≡ pick s (tail p) a
pick_other a b s empty e = sym (pick_empty s a)
pick_other a b s (also ev p) e = ap (λ c. if c then ev else pick s p a) e

-- so far in a pick
pub record Left (bound : ℕ) (s : Store) (below from to : ℕ) (types remaining : List TypeTree) (a : TypeTree) (p : Pack) : Type 0 where
  pub rest : Pack
  pub members : Members bound s below from to rest
  pub same : pick types p a ≡ pick remaining rest a

pub no_members : (bound : ℕ) (s : Store) (below : ℕ) (p : Pack) → p ≡ empty → Members bound s below 0 0 p
no_members bound s below p e = along (λ (x : Pack). Members bound s below 0 0 x) (sym e) refl

-- one more at the end of a list
pub pushed_at : {X : Type 0} (xs ys : List X) (x : X) (n : ℕ) → ys ≡ xs ++ x ∷ [] → n ≡ length xs → slice_get ys n ≡ Some x
pushed_at xs ys x n e is = ap (λ l. slice_get l n) e ∙ (ap (λ k. slice_get (xs ++ x ∷ []) k) is ∙ slice_get-push xs x)

pub begins_pushed : {X : Type 0} (xs ys : List X) (x : X) → ys ≡ xs ++ x ∷ [] → Begins xs ys
begins_pushed xs ys x e = λ i y h. ap (λ l. slice_get l i) e ∙ at_append xs (x ∷ []) i y h

-- two numbers of types, compared
module _ (I : InternerData) (is : IsInterner I) (t u : ℕ) (t_in : t < length I.types) (u_in : u < length I.types) where
  pub types_equal : true ≡ eqb u t → is_eq (type_cmp (type_of_id I t) (type_of_id I u)) ≡ true
  types_equal e = same_equal (type_of_id I t) (type_of_id I u) (let same : t ≡ u = sym (eqb-true u t (sym e)) in ap (type_of_id I) same)

  pub types_differ : false ≡ eqb u t → is_eq (type_cmp (type_of_id I t) (type_of_id I u)) ≡ false
  types_differ e = elim (is_eq (type_cmp (type_of_id I t) (type_of_id I u))) as (λ b. is_eq (type_cmp (type_of_id I t) (type_of_id I u)) ≡ b → b ≡ false) [
    | true ↦ λ h.
        let same : u ≡ t = same_type I is u t u_in t_in (sym (equal_same (type_of_id I t) (type_of_id I u) h)) in
        let clash : true ≡ false = sym (eq-eqb u t same) ∙ sym e in
        absurd (cc)
    | false ↦ λ h. refl
  ] refl

at_left : (f : ℕ → TypeTree) (ids : List ℕ) (k other : ℕ) → k < length ids → other ≡ get_or ids k other → map f (drop k ids) ≡ f other ∷ map f (drop (k + 1) ids)
at_left f ids k other lt is = ap (map f) (drop_more ids k other lt ∙ (λ i. sym is i ∷ drop (k + 1) ids))

module _ (bound : ℕ) (s : Store) (below : ℕ) (f : ℕ → TypeTree) (ids : List ℕ) (a : TypeTree) (p : Pack) where
  pub left_first : (from to : ℕ) → Members bound s below from to p → Left bound s below from to (map f ids) (map f ids) a p
  left_first from to h = record { rest = p; members = h; same = refl }

  module _ (from to k other : ℕ) (lt : k < length ids) (is : other ≡ get_or ids k other) (l : Left bound s below from to (map f ids) (map f (drop k ids)) a p) where
    pub left_found : is_eq (type_cmp a (f other)) ≡ true → pick (map f ids) p a ≡ first l.rest
    left_found e = l.same ∙ (ap (λ s. pick s l.rest a) (at_left f ids k other lt is) ∙ pick_here a (f other) (map f (drop (k + 1) ids)) l.rest e)

    pub left_more : is_eq (type_cmp a (f other)) ≡ false → from < to → Left bound s below from (to - 1) (map f ids) (map f (drop (k + 1) ids)) a p
    left_more e some = record {
      rest = tail l.rest;
      members = tail_some bound s below from to l.rest l.members some;
      same = l.same ∙ (ap (λ s. pick s l.rest a) (at_left f ids k other lt is) ∙ pick_other a (f other) (map f (drop (k + 1) ids)) l.rest e);
    }

    pub left_none : is_eq (type_cmp a (f other)) ≡ false → to ≤ from → Left bound s below from to (map f ids) (map f (drop (k + 1) ids)) a p
    left_none e none = record {
      rest = tail l.rest;
      members = tail_none bound s below from to l.rest l.members none;
      same = l.same ∙ (ap (λ s. pick s l.rest a) (at_left f ids k other lt is) ∙ pick_other a (f other) (map f (drop (k + 1) ids)) l.rest e);
    }

  pub left_end : (from to k : ℕ) → length ids ≤ k → Left bound s below from to (map f ids) (map f (drop k ids)) a p → pick (map f ids) p a ≡ no_evidence
  left_end from to k past l = l.same ∙ ap (λ xs. pick (map f xs) l.rest a) (drop_all k ids past)
