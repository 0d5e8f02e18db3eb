-- The types of a head, as far as they are gathered.
use Rattle.std.proofs.Common.{◌≡◌, refl, sym, ◌∙◌, ap, subst, ℕ, suc, ◌+◌, Bool, true, ◌&&◌, nat_eq, replicate, Option, Some, None, List, [], ◌∷◌, ◌++◌, length, map, filter, arith, Contains, inl, inr, ◌⊎◌, ◌↔◌}
use Rattle.std.specs.List.{flat_map, list_any}
use Rattle.std.proofs.lemmas.Bool.{eqb-true, eq-eqb, and_parts, and_from}
use Rattle.std.proofs.lemmas.List.Elements.{Contains-append_left, Contains-append_right, Contains-append_cases}
use Rattle.hs_scheme.specs.declared.flow.FlowPair.{FlowPair}
use Rattle.hs_scheme.specs.acceptance.Automaton.{next}
use Rattle.hs_scheme.specs.Problem.{ProblemData}
use Rattle.hs_scheme.proofs.Lists.{here, only, filter_keeps, filter_has, filter_passes}
use Rattle.hs_table.specs.Types.{TypeTree, state, arrows}
use Rattle.hs_table.specs.Entries.{EntryData}
use Rattle.hs_table.specs.Follows.{rank_of}
use Rattle.hs_table_laws.proofs.Members.{from_map, into_map}
use Rattle.hs_table_plain.specs.Enumeration.{child_type, child_types, types_in, terminal_types, is_state, body_type, is_pair, flow_type}
use Rattle.hs_table_plain.proofs.Loops.{pair_there, pair_found}
use Rattle.hs_table_plain.proofs.Members.{from_flat_map, into_flat_map, in_pushed}
use Rattle.hs_table_plain.proofs.ChoiceLemmas.{from_cond, into_cond}
use Rattle.hs_checker.specs.Any.{AnyOf}
use Rattle.hs_checker.specs.Slots.{HasTypeAt}

pub child_types_more : (qs : List ℕ) (q k : ℕ) (t : TypeTree) → Contains (child_types qs q (k + 1)) t ↔ (Contains (child_types qs q k) t ⊎ (t ≡ child_type qs q k))
child_types_more qs q k t =
    let e : suc k ≡ k + 1 = omega arith in
    subst (λ n. Contains (child_types qs q n) t ↔ (Contains (child_types qs q k) t ⊎ (t ≡ child_type qs q k))) e (in_pushed (child_types qs q k) (child_type qs q k) t)

pub terminal_types_more : (p : ProblemData) (a q : ℕ) (t : TypeTree) → Contains (terminal_types p a (q + 1)) t ↔ (Contains (terminal_types p a q) t ⊎ Contains (types_in p a q (next p.sorted.automaton.transitions q a)) t)
terminal_types_more p a q t =
    let e : suc q ≡ q + 1 = omega arith in
    let own = types_in p a q (next p.sorted.automaton.transitions q a) in
    subst (λ n. Contains (terminal_types p a n) t ↔ (Contains (terminal_types p a q) t ⊎ Contains own t)) e (
      Contains-append_cases (terminal_types p a q) own t,
      λ h. elim h [ inl l ↦ Contains-append_left (terminal_types p a q) own t l | inr r ↦ Contains-append_right (terminal_types p a q) own t r ],
    )

-- what an entry at the body with a state says
pub body_says : (b : ℕ) (x : EntryData) (q : ℕ) (t : TypeTree) → x.point ≡ b → x.ty ≡ state q → (t ≡ arrows x.env (state q)) ↔ Contains (body_type b x) t
body_says b x q t point is =
    let yes : (nat_eq x.point b && is_state x.ty) ≡ true = and_from (nat_eq x.point b) (is_state x.ty) (eq-eqb x.point b point) (ap is_state is) in (
      λ e. subst (λ z. Contains (body_type b x) z) (ap (arrows x.env) is ∙ sym e) (into_cond (nat_eq x.point b && is_state x.ty) (arrows x.env x.ty) yes),
      λ c. (from_cond (nat_eq x.point b && is_state x.ty) (arrows x.env x.ty) t c).1 ∙ ap (arrows x.env) is,
    )

pub body_types : {X : Type 0} (value : X → EntryData) (E : List EntryData) (rows : List X) (b : ℕ) → ((e : EntryData) → Contains (map value rows) e ↔ (Contains E e × (e.point ≡ b)))
    → (t : TypeTree) → AnyOf (λ (r : X) (t : TypeTree). Contains (body_type b (value r)) t) rows t ↔ Contains (flat_map (body_type b) E) t
body_types {X} value E rows b exact t = (
  λ a. into_flat_map (body_type b) E (value a.item) t ((exact (value a.item)).0 (into_map value rows a.item a.there)).0 a.holds,
  λ c.
      let s = from_flat_map (body_type b) E t c in
      let test = from_cond (nat_eq s.item.point b && is_state s.item.ty) (arrows s.item.env s.item.ty) t s.gives in
      let point = eqb-true s.item.point b (and_parts (nat_eq s.item.point b) (is_state s.item.ty) test.0).0 in
      let row = from_map value rows s.item ((exact s.item).1 (s.there, point)) in
      record { item = row.item; there = row.there; holds = subst (λ (e : EntryData). Contains (body_type b e) t) row.is s.gives },
)

pub flow_types : (E : List EntryData) (pairs : List FlowPair) (rule x : ℕ) (t : TypeTree)
    → AnyOf (λ (f : FlowPair) (t : TypeTree). HasTypeAt E f.point t) (filter (λ f. nat_eq f.rule rule && nat_eq f.param x) pairs) t ↔ Contains (flat_map (flow_type pairs rule x) E) t
flow_types E pairs rule x t = (
  λ a.
      let m : FlowPair → Bool = λ f. nat_eq f.rule rule && nat_eq f.param x in
      let f = a.item in
      let h = a.holds in
      let parts = and_parts (nat_eq f.rule rule) (nat_eq f.param x) (filter_passes m pairs f a.there) in
      let same : f ≡ record { rule = rule; param = x; point = h.entry.point } = λ i. record { rule = eqb-true f.rule rule parts.0 i; param = eqb-true f.param x parts.1 i; point = sym h.at i } in
      let there = subst (λ (g : FlowPair). Contains pairs g) same (filter_has m pairs f a.there) in
      into_flat_map (flow_type pairs rule x) E h.entry t h.there
      (subst (λ z. Contains (flow_type pairs rule x h.entry) z) h.typed (into_cond (list_any (is_pair rule x h.entry.point) pairs) h.entry.ty (pair_there pairs rule x h.entry.point there))),
  λ c.
      let m : FlowPair → Bool = λ f. nat_eq f.rule rule && nat_eq f.param x in
      let s = from_flat_map (flow_type pairs rule x) E t c in
      let test = from_cond (list_any (is_pair rule x s.item.point) pairs) s.item.ty t s.gives in
      let f : FlowPair = record { rule = rule; param = x; point = s.item.point } in
      record {
        item = f;
        there = filter_keeps m pairs f (and_from (nat_eq rule rule) (nat_eq x x) (eq-eqb rule rule refl) (eq-eqb x x refl)) (pair_found pairs rule x s.item.point test.0);
        holds = record { entry = s.item; there = s.there; at = refl; typed = sym test.1 };
      },
)

pub or_same : (A B C D : Type 0) → A ↔ (B ⊎ C) → C ↔ D → A ↔ (B ⊎ D)
or_same A B C D h k = (
  λ a. elim (h.0 a) [ inl b ↦ inl b | inr c ↦ inr (k.0 c) ],
  λ d. h.1 (elim d [ inl b ↦ inl b | inr e ↦ inr (k.1 e) ]),
)

pub lacking_type : (p : ProblemData) (a q : ℕ) (ty : TypeTree) (o : Option (List ℕ)) → o ≡ next p.sorted.automaton.transitions q a → o ≡ None → ty ≡ arrows (replicate (rank_of p a) []) (state q)
    → (t : TypeTree) → (t ≡ ty) ↔ Contains (types_in p a q (next p.sorted.automaton.transitions q a)) t
lacking_type p a q ty o is none_is made t =
    subst (λ (o : Option (List ℕ)). (t ≡ ty) ↔ Contains (types_in p a q o) t) (sym none_is ∙ is)
    (λ e. subst (λ z. Contains (arrows (replicate (rank_of p a) []) (state q) ∷ []) z) (sym (e ∙ made)) (here (arrows (replicate (rank_of p a) []) (state q)) []), λ c. only (arrows (replicate (rank_of p a) []) (state q)) t c ∙ sym made)

pub reading_types : (p : ProblemData) (a q : ℕ) (to : List ℕ) (o : Option (List ℕ)) → o ≡ next p.sorted.automaton.transitions q a → o ≡ Some to
    → (t : TypeTree) → Contains (child_types to q (length to)) t ↔ Contains (types_in p a q (next p.sorted.automaton.transitions q a)) t
reading_types p a q to o is some_is t =
    subst (λ (o : Option (List ℕ)). Contains (child_types to q (length to)) t ↔ Contains (types_in p a q o) t) (sym some_is ∙ is) (λ c. c, λ c. c)

-- one more at the end
pub pushed_is : {X : Type 0} (olds news : List X) (x t : X) → news ≡ olds ++ x ∷ [] → Contains news t ↔ (Contains olds t ⊎ (t ≡ x))
pushed_is olds news x t made = subst (λ ns. Contains ns t ↔ (Contains olds t ⊎ (t ≡ x))) (sym made) (in_pushed olds x t)

-- the types of which one more is formed where it fits
pub both_parts : (A B C F : Type 0) → A ↔ (B ⊎ C) → (A × F) ↔ ((B × F) ⊎ (C × F))
both_parts A B C F h = (
  λ x. elim (h.0 x.0) [ inl b ↦ inl (b, x.1) | inr c ↦ inr (c, x.1) ],
  λ y. elim y [ inl b ↦ (h.1 (inl b.0), b.1) | inr c ↦ (h.1 (inr c.0), c.1) ],
)

pub same_part : (A B F : Type 0) → A ↔ B → (A × F) ↔ (B × F)
same_part A B F h = (λ x. (h.0 x.0, x.1), λ y. (h.1 y.0, y.1))

-- nothing is added where there is nothing to add
pub or_nothing : (A B : Type 0) → (B → ⊥) → A ↔ (A ⊎ B)
or_nothing A B never = (λ a. inl a, λ h. elim h [ inl a ↦ a | inr b ↦ absurd (never b) ])
