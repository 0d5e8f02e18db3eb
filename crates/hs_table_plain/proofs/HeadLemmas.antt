-- The types of a head are those of `IsHeadType`.
use Rattle.std.proofs.Common.{◌≡◌, refl, sym, ◌∙◌, ap, subst, ℕ, zero, suc, ◌+◌, ◌<◌, true, false, ◌&&◌, nat_eq, Option, Some, None, List, [], ◌∷◌, length, get_or, slice_get, replicate, set, arith, Contains, inl, inr}
use Rattle.std.specs.List.{flat_map, list_any}
use Rattle.std.proofs.lemmas.Bool.{eqb-true, eq-eqb, cases_order, and_parts, and_from}
use Rattle.std.proofs.lemmas.List.Elements.{Contains-append_left, Contains-append_right, Contains-append_cases}
use Rattle.std.proofs.lemmas.List.{get_or_default}
use Rattle.std.proofs.lemmas.Option.{get_or_from_slice_get}
use Rattle.hs_scheme.specs.declared.term.Head.{Head}
use Rattle.hs_scheme.specs.declared.term.Head.TheVariants.{Var, Nt, Tm}
use Rattle.hs_scheme.specs.Tree.{node}
use Rattle.hs_scheme.specs.acceptance.Automaton.{next}
use Rattle.hs_scheme.specs.flow.Points.{NonterminalWithin}
use Rattle.hs_scheme.specs.Problem.{ProblemData}
use Rattle.hs_scheme.proofs.Lists.{none_in, here, slice_get-read, Contains-at, only}
use Rattle.hs_table.specs.declared.support.HeadBy.{HeadBy}
use Rattle.hs_table.specs.declared.support.HeadBy.TheVariants.{Terminal, Rule, Param}
use Rattle.hs_table.specs.Types.{TypeTree, state, arrows, IsType}
use Rattle.hs_table.specs.Entries.{EntryData, InShape}
use Rattle.hs_table.specs.Follows.{rank_of, IsTerminalType, FromBody, FromFlow, IsHeadType}
use Rattle.hs_table_laws.proofs.Places.{within_from}
use Rattle.hs_table_plain.specs.Enumeration.{child_type, child_types, types_in, terminal_types, is_state, body_type, body_at, is_pair, flow_type, head_types}
use Rattle.hs_table_plain.proofs.Loops.{pair_there, pair_found}
use Rattle.hs_table_plain.proofs.Members.{from_flat_map, into_flat_map}
use Rattle.hs_table_plain.proofs.ChoiceLemmas.{from_cond, into_cond, at_place}

read_at : (xs : List ℕ) (k : ℕ) → k < length xs → slice_get xs k ≡ Some (get_or xs k 0)
read_at xs k h = slice_get-read xs k (get_or xs k 0) h (get_or_default xs k (get_or xs k 0) 0 h)

less : (q n : ℕ) → q < suc n → nat_eq q n ≡ false → q < n
less q n h e = elim (cases_order q n) [
  | inl same ↦ let f : true ≡ false = sym (eq-eqb q n same) ∙ e in absurd (cc)
  | inr other ↦ elim other [
    | inl lt ↦ lt
    | inr gt ↦ absurd (omega arith)
  ]
]

pub from_children : (qs : List ℕ) (q n : ℕ) (ty : TypeTree) → Contains (child_types qs q n) ty → (place : ℕ) × ((place < n) × (ty ≡ child_type qs q place))
from_children qs q zero ty c = absurd (none_in ty c)
from_children qs q (suc n) ty c = elim (Contains-append_cases (child_types qs q n) (child_type qs q n ∷ []) ty c) [
  | inl h ↦ let r = from_children qs q n ty h in (r.0, (omega (arith, r.1.0), r.1.1))
  | inr h ↦ (n, (omega arith, only (child_type qs q n) ty h))
]

into_children : (qs : List ℕ) (q n place : ℕ) → place < n → Contains (child_types qs q n) (child_type qs q place)
into_children qs q zero place h = absurd (omega arith)
into_children qs q (suc n) place h = elim (nat_eq place n) as (λ b. nat_eq place n ≡ b → Contains (child_types qs q (suc n)) (child_type qs q place)) [
  | true ↦ λ e. Contains-append_right (child_types qs q n) (child_type qs q n ∷ []) (child_type qs q place)
      (subst (λ k. Contains (child_type qs q n ∷ []) (child_type qs q k)) (sym (eqb-true place n e)) (here (child_type qs q n) []))
  | false ↦ λ e. Contains-append_left (child_types qs q n) (child_type qs q n ∷ []) (child_type qs q place) (into_children qs q n place (less place n h e))
] refl

module _ (p : ProblemData) (a : ℕ) where
  record InState (n : ℕ) (ty : TypeTree) : Type 0 where
    q : ℕ
    below : q < n
    gives : Contains (types_in p a q (next p.sorted.automaton.transitions q a)) ty

  from_states : (n : ℕ) (ty : TypeTree) → Contains (terminal_types p a n) ty → InState n ty
  from_states zero ty c = absurd (none_in ty c)
  from_states (suc n) ty c = elim (Contains-append_cases (terminal_types p a n) (types_in p a n (next p.sorted.automaton.transitions n a)) ty c) [
    | inl h ↦ let r = from_states n ty h in record { q = r.q; below = omega (arith, r.below); gives = r.gives }
    | inr h ↦ record { q = n; below = omega arith; gives = h }
  ]

  into_states : (n q : ℕ) (ty : TypeTree) → q < n → Contains (types_in p a q (next p.sorted.automaton.transitions q a)) ty → Contains (terminal_types p a n) ty
  into_states zero q ty h c = absurd (omega arith)
  into_states (suc n) q ty h c = elim (nat_eq q n) as (λ b. nat_eq q n ≡ b → Contains (terminal_types p a (suc n)) ty) [
    | true ↦ λ e. Contains-append_right (terminal_types p a n) (types_in p a n (next p.sorted.automaton.transitions n a)) ty
        (subst (λ k. Contains (types_in p a k (next p.sorted.automaton.transitions k a)) ty) (eqb-true q n e) c)
    | false ↦ λ e. Contains-append_left (terminal_types p a n) (types_in p a n (next p.sorted.automaton.transitions n a)) ty (into_states n q ty (less q n h e) c)
  ] refl

  from_types : (q : ℕ) (o : Option (List ℕ)) (ty : TypeTree) → next p.sorted.automaton.transitions q a ≡ o → Contains (types_in p a q o) ty → (child : Option ℕ) × IsTerminalType p a q child ty
  from_types q None ty e c = (None, record { moves = e; is = only (arrows (replicate (rank_of p a) []) (state q)) ty c })
  from_types q (Some qs) ty e c = let r = from_children qs q (length qs) ty c in
      (Some (r.0 + 1), record { qs = qs; place = r.0; r = get_or qs r.0 0; moves = e; at = read_at qs r.0 r.1.0; counted = refl; is = r.1.1 })

  into_types : (q : ℕ) (child : Option ℕ) (ty : TypeTree) → IsTerminalType p a q child ty → Contains (types_in p a q (next p.sorted.automaton.transitions q a)) ty
  into_types q None ty h =
      subst (λ o. Contains (types_in p a q o) ty) (sym h.moves)
      (subst (λ t. Contains (arrows (replicate (rank_of p a) []) (state q) ∷ []) t) (sym h.is) (here (arrows (replicate (rank_of p a) []) (state q)) []))
  into_types q (Some child) ty h =
      let e : get_or h.qs h.place 0 ≡ h.r = get_or_from_slice_get h.qs h.place h.r 0 h.at in
      subst (λ o. Contains (types_in p a q o) ty) (sym h.moves)
      (subst (λ t. Contains (child_types h.qs q (length h.qs)) t) (ap (λ r. arrows (set (replicate (length h.qs) []) h.place (state r ∷ [])) (state q)) e ∙ sym h.is)
      (into_children h.qs q (length h.qs) h.place (within_from h.qs h.place h.r h.at)))

state_of : (n : ℕ) (t : TypeTree) → IsType n t → is_state t ≡ true → (q : ℕ) × (t ≡ state q)
state_of n (node (Some q) us) h e = (q, ap (node (Some q)) h.1)
state_of n (node None us) h e = absurd (cc)

module _ (p : ProblemData) (E : List EntryData) (shapes : (e : EntryData) → Contains E e → InShape p e) where
  from_body : (f : ℕ) (ty : TypeTree) → f < length p.points.bodies → Contains (flat_map (body_type (body_at p f)) E) ty → (place : ℕ) × FromBody p E f place ty
  from_body f ty lt c =
      let s = from_flat_map (body_type (body_at p f)) E ty c in
      let x = s.item in
      let t = from_cond (nat_eq x.point (body_at p f) && is_state x.ty) (arrows x.env x.ty) ty s.gives in
      let parts = and_parts (nat_eq x.point (body_at p f)) (is_state x.ty) t.0 in
      let here_is = at_place p E shapes x s.there in
      let q = state_of p.sorted.automaton.states x.ty here_is.1.shape.ty parts.1 in (
        here_is.0,
        record {
          entry = x;
          q = q.0;
          holds = here_is.1;
          body = read_at p.points.bodies f lt ∙ ap (λ b. Some b) (sym (eqb-true x.point (body_at p f) parts.0));
          is_state = q.1;
          is = t.1 ∙ ap (arrows x.env) q.1;
        },
      )

  into_body : (f place : ℕ) (ty : TypeTree) → FromBody p E f place ty → Contains (flat_map (body_type (body_at p f)) E) ty
  into_body f place ty h =
      let x = h.entry in
      let point : x.point ≡ body_at p f = sym (get_or_from_slice_get p.points.bodies f x.point 0 h.body) in
      into_flat_map (body_type (body_at p f)) E x ty (Contains-at E place x h.holds.at)
      (subst (λ t. Contains (body_type (body_at p f) x) t) (ap (arrows x.env) h.is_state ∙ sym h.is)
      (into_cond (nat_eq x.point (body_at p f) && is_state x.ty) (arrows x.env x.ty)
      (and_from (nat_eq x.point (body_at p f)) (is_state x.ty) (eq-eqb x.point (body_at p f) point) (ap is_state h.is_state))))

  from_flow : (rule x : ℕ) (ty : TypeTree) → Contains (flat_map (flow_type p.flow.pairs rule x) E) ty → (place : ℕ) × FromFlow p E rule x place ty
  from_flow rule x ty c =
      let s = from_flat_map (flow_type p.flow.pairs rule x) E ty c in
      let e = s.item in
      let t = from_cond (list_any (is_pair rule x e.point) p.flow.pairs) e.ty ty s.gives in
      let here_is = at_place p E shapes e s.there in
      (here_is.0, record { entry = e; holds = here_is.1; flows = pair_found p.flow.pairs rule x e.point t.0; is = t.1 })

  into_flow : (rule x place : ℕ) (ty : TypeTree) → FromFlow p E rule x place ty → Contains (flat_map (flow_type p.flow.pairs rule x) E) ty
  into_flow rule x place ty h =
      let e = h.entry in
      into_flat_map (flow_type p.flow.pairs rule x) E e ty (Contains-at E place e h.holds.at)
      (subst (λ t. Contains (flow_type p.flow.pairs rule x e) t) (sym h.is) (into_cond (list_any (is_pair rule x e.point) p.flow.pairs) e.ty (pair_there p.flow.pairs rule x e.point h.flows)))

  pub from_heads : (rule : ℕ) (h : Head) (ty : TypeTree) → NonterminalWithin (length p.points.bodies) h → Contains (head_types p E rule h) ty → (by : HeadBy) × IsHeadType p E rule h by ty
  from_heads rule (Tm a) ty within c =
      let s = from_states p a p.sorted.automaton.states ty c in
      let t = from_types p a s.q (next p.sorted.automaton.transitions s.q a) ty refl s.gives in
      (Terminal s.q t.0, (s.below, t.1))
  from_heads rule (Nt f) ty within c = let r = from_body f ty within c in (Rule r.0, r.1)
  from_heads rule (Var x) ty within c = let r = from_flow rule x ty c in (Param x r.0, (refl, r.1))

  pub into_heads : (rule : ℕ) (h : Head) (by : HeadBy) (ty : TypeTree) → IsHeadType p E rule h by ty → Contains (head_types p E rule h) ty
  into_heads rule (Tm a) (Terminal q child) ty h = into_states p a p.sorted.automaton.states q ty h.0 (into_types p a q child ty h.1)
  into_heads rule (Tm a) (Rule place) ty h = absurd h
  into_heads rule (Tm a) (Param y place) ty h = absurd h
  into_heads rule (Nt f) (Terminal q child) ty h = absurd h
  into_heads rule (Nt f) (Rule place) ty h = into_body f place ty h
  into_heads rule (Nt f) (Param y place) ty h = absurd h
  into_heads rule (Var j) (Terminal q child) ty h = absurd h
  into_heads rule (Var j) (Rule place) ty h = absurd h
  into_heads rule (Var j) (Param y place) ty h = into_flow rule j place ty h.1
