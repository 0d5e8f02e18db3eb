-- A worked example of a certificate that needs a void environment: `S -> F c. F x -> b x (F x).` with `q0 b -> q0 q0. q0 c -> .` The call
-- `F x` hands on what F was given, and `F c` gives an argument that isn't rejected. The one entry is that of the second x, the one that is
-- handed on: it is rejected in q0 where what F was given is.
--     certificate    so is the first x: this has no entry, and is void, as no call gives F an argument that is rejected in q0
--     not_without    with this entry and no void environments there is no certificate, whatever the pairs: `F x` may give such an argument
use Rattle.std.specs.Prelude.{◌≡◌, refl, ℕ, zero, suc, ◌+◌, ◌<◌, List, [], ◌∷◌, length, map, find, slice_get, replicate, set, Option, Some, None, option_map, Bool, true, false, Contains, ◌⊎◌}
use Rattle.std.proofs.Common.{sym, ◌∙◌, ap, subst, cond, arith, inl, inr}
use Rattle.std.proofs.lemmas.Option.{same_Some}
use Rattle.hs_scheme.specs.declared.term.Head.{Head}
use Rattle.hs_scheme.specs.declared.term.Head.TheVariants.{Var, Nt, Tm}
use Rattle.hs_scheme.specs.declared.term.Rule.{Rule}
use Rattle.hs_scheme.specs.declared.flow.FlowPair.{FlowPair}
use Rattle.hs_scheme.specs.Tree.{Tree, node, none, more}
use Rattle.hs_scheme.specs.flow.Points.{PointData, points_of}
use Rattle.hs_scheme.specs.acceptance.Transition.{TransitionData}
use Rattle.hs_scheme.specs.sorting.Sorting.{o, arrow}
use Rattle.hs_scheme.specs.Problem.{ProblemData}
use Rattle.hs_scheme.specs.acceptance.Automaton.{next, is_of}
use Rattle.hs_scheme.proofs.Lists.{none_in, here, later, uncons, only}
use Rattle.hs_table.specs.declared.support.HeadBy.{HeadBy}
use Rattle.hs_table.specs.declared.support.HeadBy.TheVariants.{Terminal, Rule as FromRule, Param}
use Rattle.hs_table.specs.Types.{TypeTree, state, arrows, IsSet, IsType}
use Rattle.hs_table.specs.Entries.{Env, EntryData, Has, set_at, InShape, params_of}
use Rattle.hs_table.specs.Follows.{IsHeadType, IsTerminalType, FromBody, HeadHas, AnyHas}
use Rattle.hs_table_laws.proofs.Arrows.{arrows_same}
use Rattle.hs_table_laws.proofs.Sets.{no_set, one_set}
use Rattle.hs_weak.specs.Strength.{AsStrongAs, same_state, AsksAtLeast}
use Rattle.hs_weak.specs.Weak.{WeaklyChosen, done, next_argument, choose, WeaklyFollows, IsCoveredIn}
use Rattle.hs_weak.specs.WeakExamples.{none_at, one_place, chosen_long}
use Rattle.hs_weak.specs.Reads.{reads_start, reads_body, reads_child, reads_flow, reads_later_child, IsClosedReads}
use Rattle.hs_weak.specs.Sites.{SiteData, IsSite, IsChain}
use Rattle.hs_weak.specs.Void.{Misses, IsMissed, VoidData, IsVoid, sets_for, IsUnionOf, IsBlocked, IsVoidShape, IsVoidList}
use Rattle.hs_weak.specs.Certificate.{IsVoidEntry, IsAcceptanceCertificate}

abbrev leaf : Head → Tree Head
leaf h = node h none

-- b is terminal 0 and c terminal 1; the points are 0 `F c`, 1 `c`, 2 `b x (F x)`, 3 `x`, 4 `F x` and 5 `x`
abbrev rules : List Rule
rules =
    record { params = 0; body = node (Nt 1) (more (leaf (Tm 1)) none) }
    ∷ record { params = 1; body = node (Tm 0) (more (leaf (Var 0)) (more (node (Nt 1) (more (leaf (Var 0)) none)) none)) }
    ∷ []

abbrev of_b : TransitionData
of_b = record { from = 0; terminal = 0; to = 0 ∷ 0 ∷ [] }

abbrev of_c : TransitionData
of_c = record { from = 0; terminal = 1; to = [] }

abbrev transitions : List TransitionData
transitions = of_b ∷ of_c ∷ []

abbrev example : ProblemData
example = record {
  sorted = record {
    scheme = record { rules = rules; ranks = 2 ∷ 0 ∷ [] };
    automaton = record { states = 1; transitions = transitions };
    names = record { rules = []; params = []; terminals = []; states = [] };
    sorts = o ∷ arrow o o ∷ [];
  };
  points = points_of rules;
  flow = record { pairs = record { rule = 1; param = 0; point = 1 } ∷ record { rule = 1; param = 0; point = 5 } ∷ []; heads = [] };
}

abbrev asks_q0 : Env
asks_q0 = (state 0 ∷ []) ∷ []

abbrev second_x : EntryData
second_x = record { point = 5; env = asks_q0; ty = state 0 }

abbrev entries : List EntryData
entries = second_x ∷ []

abbrev of_f : VoidData
of_f = record { rule = 1; env = asks_q0 }

-- all points, in the one state
abbrev read_pairs : List (ℕ × ℕ)
read_pairs = (0, 0) ∷ (1, 0) ∷ (2, 0) ∷ (3, 0) ∷ (4, 0) ∷ (5, 0) ∷ []

-- ---- the pairs are closed

read_state : (ns : List ℕ) (point q : ℕ) → Contains {X = ℕ × ℕ} (map (λ n. (n, 0)) ns) (point, q) → q ≡ 0
read_state [] point q m = absurd (none_in (point, q) m)
read_state (n ∷ ns) point q m = elim (uncons (n, 0) (point, q) (map (λ k. (k, 0)) ns) m) [
  | inl e ↦ ap (λ (k : ℕ × ℕ). k.1) e
  | inr there ↦ read_state ns point q there
]

state_of : (point q : ℕ) → Contains read_pairs (point, q) → q ≡ 0
state_of point q m = read_state (0 ∷ 1 ∷ 2 ∷ 3 ∷ 4 ∷ 5 ∷ []) point q m

each_point : (n : ℕ) → n < 6 → Contains read_pairs (n, 0)
each_point zero lt = (0, omega arith, refl)
each_point (suc zero) lt = (1, omega arith, refl)
each_point (suc (suc zero)) lt = (2, omega arith, refl)
each_point (suc (suc (suc zero))) lt = (3, omega arith, refl)
each_point (suc (suc (suc (suc zero)))) lt = (4, omega arith, refl)
each_point (suc (suc (suc (suc (suc zero))))) lt = (5, omega arith, refl)
each_point (suc (suc (suc (suc (suc (suc n)))))) lt = absurd (omega (arith, lt))

is_read : (point q : ℕ) → point < 6 → q ≡ 0 → Contains read_pairs (point, q)
is_read point q lt k = subst (λ z. Contains read_pairs (point, z)) (sym k) (each_point point lt)

argument_within : (w i u : ℕ) (d : PointData) → slice_get example.points.points w ≡ Some d → slice_get d.args i ≡ Some u → u < 6
argument_within w i u d at at_u = by w at
  where
    args_are : (e : PointData) → Some e ≡ Some d → slice_get e.args i ≡ Some u
    args_are e same = subst (λ (k : PointData). slice_get k.args i ≡ Some u) (sym (same_Some e d same)) at_u

    two_places : (j : ℕ) → slice_get (3 ∷ 4 ∷ []) j ≡ Some u → u < 6
    two_places zero e = let is = same_Some 3 u e in omega (arith, is)
    two_places (suc zero) e = let is = same_Some 4 u e in omega (arith, is)
    two_places (suc (suc j)) e = absurd (cc)

    by : (n : ℕ) → slice_get example.points.points n ≡ Some d → u < 6
    by zero e = let is = (one_place 1 i u (args_are (record { rule = 0; head = Nt 1; args = 1 ∷ [] }) e)).1 in omega (arith, is)
    by (suc zero) e = absurd (none_at i u (args_are (record { rule = 0; head = Tm 1; args = [] }) e))
    by (suc (suc zero)) e = two_places i (args_are (record { rule = 1; head = Tm 0; args = 3 ∷ 4 ∷ [] }) e)
    by (suc (suc (suc zero))) e = absurd (none_at i u (args_are (record { rule = 1; head = Var 0; args = [] }) e))
    by (suc (suc (suc (suc zero)))) e = let is = (one_place 5 i u (args_are (record { rule = 1; head = Nt 1; args = 5 ∷ [] }) e)).1 in omega (arith, is)
    by (suc (suc (suc (suc (suc zero))))) e = absurd (none_at i u (args_are (record { rule = 1; head = Var 0; args = [] }) e))
    by (suc (suc (suc (suc (suc (suc n)))))) e = absurd (cc)

body_within : (f body : ℕ) → slice_get example.points.bodies f ≡ Some body → body < 6
body_within zero body e = let is = same_Some 0 body e in omega (arith, is)
body_within (suc zero) body e = let is = same_Some 2 body e in omega (arith, is)
body_within (suc (suc f)) body e = absurd (cc)

flow_within : (rule x v : ℕ) → Contains example.flow.pairs (record { rule = rule; param = x; point = v }) → v < 6
flow_within rule x v m = elim (uncons (record { rule = 1; param = 0; point = 1 }) (record { rule = rule; param = x; point = v }) (record { rule = 1; param = 0; point = 5 } ∷ []) m) [
  | inl e ↦ let is : v ≡ 1 = ap (λ (f : FlowPair). f.point) e in omega (arith, is)
  | inr there ↦ let is : v ≡ 5 = ap (λ (f : FlowPair). f.point) (only (record { rule = 1; param = 0; point = 5 }) (record { rule = rule; param = x; point = v }) there) in omega (arith, is)
]

abbrev InList : List TransitionData → List ℕ → Type 0
InList ts qs = (t : TransitionData) × (Contains ts t × (t.to ≡ qs))

-- a transition that is found is in the list
found_in : (p : TransitionData → Bool) (ts : List TransitionData) (qs : List ℕ) → option_map (λ (t : TransitionData). t.to) (find p ts) ≡ Some qs → InList ts qs
found_in p [] qs e = absurd (cc)
found_in p (t ∷ ts) qs e = by (p t) (λ found. found_in p ts qs found) e
  where
    by : (b : Bool) → (option_map (λ (k : TransitionData). k.to) (find p ts) ≡ Some qs → InList ts qs) → option_map (λ (k : TransitionData). k.to) (cond b (Some t) (find p ts)) ≡ Some qs → InList (t ∷ ts) qs
    by true behind found = (t, (here t ts, same_Some t.to qs found))
    by false behind found = let r = behind found in (r.0, (later t r.0 ts r.1.0, r.1.1))

child_state : (q a i r : ℕ) (qs : List ℕ) → next transitions q a ≡ Some qs → slice_get qs i ≡ Some r → r ≡ 0
child_state q a i r qs moves at = elim (uncons of_b found.0 (of_c ∷ []) found.1.0) [
  | inl e ↦ two_states i (at_to of_b e)
  | inr there ↦ absurd (none_at i r (at_to of_c (only of_c found.0 there)))
]
  where
    found : InList transitions qs
    found = found_in (is_of q a) transitions qs moves

    at_to : (t : TransitionData) → found.0 ≡ t → slice_get t.to i ≡ Some r
    at_to t e = subst (λ (xs : List ℕ). slice_get xs i ≡ Some r) (sym (sym (ap (λ (k : TransitionData). k.to) e) ∙ found.1.1)) at

    two_states : (j : ℕ) → slice_get (0 ∷ 0 ∷ []) j ≡ Some r → r ≡ 0
    two_states zero e = sym (same_Some 0 r e)
    two_states (suc zero) e = sym (same_Some 0 r e)
    two_states (suc (suc j)) e = absurd (cc)

closed : IsClosedReads example read_pairs
closed point q (reads_start e) = is_read point q (body_within 0 point e) refl
closed point q (reads_body {point = w} {rule = rule} {f = f} {args = args} m at e) = is_read point q (body_within f point e) (state_of w q m)
closed point q (reads_child {point = w} {rule = rule} {a = a} {q = s} {args = args} {qs = qs} i m at moves at_u at_r) =
    is_read point q (argument_within w i point (record { rule = rule; head = Tm a; args = args }) at at_u) (child_state s a i q qs moves at_r)
closed point q (reads_flow {point = w} {rule = rule} {x = x} {args = args} m at flows) = is_read point q (flow_within rule x point flows) (state_of w q m)
closed point q (reads_later_child {point = w} {rule = rule} {x = x} {a = a} {g = g} {q = s} {args = args} {qs = qs} j m at flows becomes moves at_u at_r) =
    is_read point q (argument_within w j point (record { rule = rule; head = Var x; args = args }) at at_u) (child_state s a (g + j) q qs moves at_r)

-- ---- what follows from the one entry

the_entry : (place : ℕ) (e : EntryData) → slice_get entries place ≡ Some e → second_x ≡ e
the_entry zero e at = same_Some second_x e at
the_entry (suc place) e at = absurd (cc)

-- what is chosen stands at the second x
chosen_x : {i : ℕ} {us : List ℕ} {ss : Env} {places : List (ℕ × ℕ)} {es : List EntryData} → WeaklyChosen AsStrongAs example entries i us ss places es → (j : ℕ) (a : TypeTree) → Has ss j a → slice_get us j ≡ Some 5
chosen_x done j a h = absurd (none_in a h)
chosen_x (next_argument c) zero a h = absurd (none_in a h)
chosen_x (next_argument c) (suc j) a h = chosen_x c j a h
chosen_x (choose {place = place} {e = e} holds point ty c) zero a h = ap (λ (n : ℕ). Some n) (sym point ∙ sym (ap (λ (k : EntryData). k.point) (the_entry place e holds.at)))
chosen_x (choose holds point ty c) (suc j) a h = chosen_x c (suc j) a h

no_sets : (sets : Env) (t u : TypeTree) → length sets ≡ 0 → arrows sets t ≡ u → t ≡ u
no_sets [] t u long e = e
no_sets (s ∷ sets) t u long e = absurd (omega (arith, long))

c_not : (q : ℕ) (child : Option ℕ) (ty : TypeTree) → q ≡ 0 → IsTerminalType example 1 q child ty → ⊥
c_not q None ty k is = let no : Some [] ≡ (let o : Option (List ℕ) = None in o) = sym (λ z. next transitions (k z) 1) ∙ is.moves in cc
c_not q (Some c) ty k is =
    let none : [] ≡ is.qs = same_Some [] is.qs (sym (λ z. next transitions (k z) 1) ∙ is.moves) in
    none_at is.place is.r (subst (λ (xs : List ℕ). slice_get xs is.place ≡ Some is.r) (sym none) is.at)

b_not : (q : ℕ) (child : Option ℕ) (sets : Env) (ty : TypeTree) (places : List (ℕ × ℕ)) (chosen : List EntryData) → q ≡ 0 → IsTerminalType example 0 q child (arrows sets ty)
    → WeaklyChosen AsStrongAs example entries 0 (3 ∷ 4 ∷ []) sets places chosen → ⊥
b_not q None sets ty places chosen k is are = let no : Some (0 ∷ 0 ∷ []) ≡ (let o : Option (List ℕ) = None in o) = sym (λ z. next transitions (k z) 0) ∙ is.moves in cc
b_not q (Some c) sets ty places chosen k is are = by is.qs is.place (same_Some (0 ∷ 0 ∷ []) is.qs (sym (λ z. next transitions (k z) 0) ∙ is.moves)) is.at is.is
  where
    asked : (asks : Env) (j u : ℕ) → length asks ≡ 2 → arrows sets ty ≡ arrows asks (state q) → Has asks j (state is.r) → slice_get (3 ∷ 4 ∷ []) j ≡ Some u → u ≡ 5
    asked asks j u two whole h at =
        let same : sets ≡ asks = (arrows_same sets asks ty (state q) (chosen_long AsStrongAs example entries are ∙ sym two) whole).0 in
        same_Some u 5 (sym at ∙ chosen_x are j (state is.r) (subst (λ (ss : Env). Has ss j (state is.r)) (sym same) h))

    by : (qs : List ℕ) (place : ℕ) → 0 ∷ 0 ∷ [] ≡ qs → slice_get qs place ≡ Some is.r → arrows sets ty ≡ arrows (set (replicate (length qs) []) place (state is.r ∷ [])) (state q) → ⊥
    by qs zero e at whole =
        let asks : Env = (state is.r ∷ []) ∷ [] ∷ [] in
        let no : 3 ≡ 5 = asked asks 0 3 refl (whole ∙ sym (λ z. arrows (set (replicate (length (e z)) []) 0 (state is.r ∷ [])) (state q))) (here (state is.r) []) refl in omega (arith, no)
    by qs (suc zero) e at whole =
        let asks : Env = [] ∷ (state is.r ∷ []) ∷ [] in
        let no : 4 ≡ 5 = asked asks 1 4 refl (whole ∙ sym (λ z. arrows (set (replicate (length (e z)) []) 1 (state is.r ∷ [])) (state q))) (here (state is.r) []) refl in omega (arith, no)
    by qs (suc (suc n)) e at whole = let past : slice_get (0 ∷ 0 ∷ []) (suc (suc n)) ≡ Some is.r = subst (λ (xs : List ℕ). slice_get xs (suc (suc n)) ≡ Some is.r) (sym e) at in cc

call_not : (place : ℕ) (ty : TypeTree) → FromBody example entries 1 place ty → ⊥
call_not place ty from =
    let at_body : 2 ≡ from.entry.point = same_Some 2 from.entry.point from.body in
    let at_x : 5 ≡ from.entry.point = ap (λ (k : EntryData). k.point) (the_entry place from.entry from.holds.at) in
    omega (arith, at_body, at_x)

abbrev Nothing : PointData → Type 0
Nothing of =
    (by : HeadBy) (sets : Env) (ty : TypeTree) (places : List (ℕ × ℕ)) (chosen : List EntryData) → IsHeadType example entries of.rule of.head by (arrows sets ty)
    → WeaklyChosen AsStrongAs example entries 0 of.args sets places chosen → ⊥

nothing_by_call : (rule u : ℕ) → Nothing (record { rule = rule; head = Nt 1; args = u ∷ [] })
nothing_by_call rule u (Terminal q child) sets ty places chosen x are = x
nothing_by_call rule u (FromRule place) sets ty places chosen x are = call_not place (arrows sets ty) x
nothing_by_call rule u (Param y place) sets ty places chosen x are = x

nothing_by_c : Nothing (record { rule = 0; head = Tm 1; args = [] })
nothing_by_c (Terminal q child) sets ty places chosen (lt, is) are = c_not q child (arrows sets ty) (omega (arith, lt)) is
nothing_by_c (FromRule place) sets ty places chosen x are = x
nothing_by_c (Param y place) sets ty places chosen x are = x

nothing_by_b : Nothing (record { rule = 1; head = Tm 0; args = 3 ∷ 4 ∷ [] })
nothing_by_b (Terminal q child) sets ty places chosen (lt, is) are = b_not q child sets ty places chosen (omega (arith, lt)) is are
nothing_by_b (FromRule place) sets ty places chosen x are = x
nothing_by_b (Param y place) sets ty places chosen x are = x

x_type : (by : HeadBy) (ty : TypeTree) → IsHeadType example entries 1 (Var 0) by ty → ty ≡ state 0
x_type (Terminal q child) ty x = absurd x
x_type (FromRule place) ty x = absurd x
x_type (Param y place) ty (same, from) = from.is ∙ sym (ap (λ (k : EntryData). k.ty) (the_entry place from.entry from.holds.at))

abbrev at_x : PointData
at_x = record { rule = 1; head = Var 0; args = [] }

-- what follows at either x has the type q0, and asks x for it
record OfX (e : EntryData) : Type 0 where
  of : PointData
  at : slice_get example.points.points e.point ≡ Some of
  rule : 1 ≡ of.rule
  ty : e.ty ≡ state 0
  asks : AsksAtLeast AsStrongAs e.env asks_q0

of_x : (e : EntryData) (f : WeaklyFollows AsStrongAs example entries e) → at_x ≡ f.1.of → OfX e
of_x e (s, f) is = record {
  of = f.of;
  at = f.at;
  rule = ap (λ (k : PointData). k.rule) is;
  ty = no_sets f.sets e.ty (state 0) (chosen_long AsStrongAs example entries f.are ∙ sym (ap (λ (k : PointData). length k.args) is)) head;
  asks = asks;
}
  where
    head : arrows f.sets e.ty ≡ state 0
    head = x_type s.head (arrows f.sets e.ty) (subst (λ (k : PointData). IsHeadType example entries k.rule k.head s.head (arrows f.sets e.ty)) (sym is) f.head)

    long : length e.env ≡ 1
    long = f.env.long ∙ sym (ap (λ (k : PointData). params_of example k.rule) is)

    it : Has e.env 0 (state 0)
    it = (f.union 0 (state 0) (omega (arith, long))).1 (inl (subst (λ (k : PointData). HeadHas k.head (arrows f.sets e.ty) 0 (state 0)) is (refl, sym head)))

    asks : AsksAtLeast AsStrongAs e.env asks_q0
    asks zero a m = (state 0, (it, subst (λ (t : TypeTree). AsStrongAs (state 0) t) (sym (only (state 0) a m)) same_state))
    asks (suc j) a m = absurd (none_in a m)

each_set : (j : ℕ) → IsSet (set_at asks_q0 j)
each_set zero = one_set (state 0)
each_set (suc j) = no_set

type_asked : (j : ℕ) (a : TypeTree) → Has asks_q0 j a → a ≡ state 0
type_asked zero a m = only (state 0) a m
type_asked (suc j) a m = absurd (none_in a m)

each_type : (j : ℕ) (a : TypeTree) → Has asks_q0 j a → IsType 1 a
each_type j a m = subst (λ (t : TypeTree). IsType 1 t) (sym (type_asked j a m)) (omega arith, refl)

x_in_shape : InShape example second_x
x_in_shape = record {
  of = at_x;
  at = refl;
  env = record { long = refl; sets = each_set };
  types = each_type;
  ty = (omega arith, refl);
}

by_void : (e : EntryData) → OfX e → IsVoidEntry example entries (of_f ∷ []) e
by_void e x = (x.of, (x.at, inl (of_f, (here of_f [], x.rule, x.asks))))

by_entry : (e : EntryData) → e.point ≡ 5 → OfX e → IsCoveredIn AsStrongAs example entries e
by_entry e at x = (0, second_x, (record { at = refl; shape = x_in_shape }, record { point = sym at; ty = subst (λ (t : TypeTree). AsStrongAs (state 0) t) (sym x.ty) same_state; env = x.asks }))

covered : (e : EntryData) (n : ℕ) → e.point ≡ n → WeaklyFollows AsStrongAs example entries e → IsCoveredIn AsStrongAs example entries e ⊎ IsVoidEntry example entries (of_f ∷ []) e
covered e n at (s, f) = by n at (sym (ap (λ k. slice_get example.points.points k) at) ∙ f.at)
  where
    not_here : (d : PointData) → Nothing d → Some d ≡ Some f.of → ⊥
    not_here d nothing there = subst Nothing (same_Some d f.of there) nothing s.head f.sets e.ty s.args f.chosen f.head f.are

    by : (k : ℕ) → e.point ≡ k → slice_get example.points.points k ≡ Some f.of → IsCoveredIn AsStrongAs example entries e ⊎ IsVoidEntry example entries (of_f ∷ []) e
    by zero p there = absurd (not_here (record { rule = 0; head = Nt 1; args = 1 ∷ [] }) (nothing_by_call 0 1) there)
    by (suc zero) p there = absurd (not_here (record { rule = 0; head = Tm 1; args = [] }) nothing_by_c there)
    by (suc (suc zero)) p there = absurd (not_here (record { rule = 1; head = Tm 0; args = 3 ∷ 4 ∷ [] }) nothing_by_b there)
    by (suc (suc (suc zero))) p there = inr (by_void e (of_x e (s, f) (same_Some at_x f.of there)))
    by (suc (suc (suc (suc zero)))) p there = absurd (not_here (record { rule = 1; head = Nt 1; args = 5 ∷ [] }) (nothing_by_call 1 5) there)
    by (suc (suc (suc (suc (suc zero))))) p there = inl (by_entry e p (of_x e (s, f) (same_Some at_x f.of there)))
    by (suc (suc (suc (suc (suc (suc k)))))) p there = absurd (cc)

-- ---- the void environment

-- what is chosen first asks x for q0
first_asks : {i u : ℕ} {us : List ℕ} {a : TypeTree} {s : List TypeTree} {ss : Env} {places : List (ℕ × ℕ)} {chosen : List EntryData} → WeaklyChosen AsStrongAs example entries i (u ∷ us) ((a ∷ s) ∷ ss) places chosen → AnyHas chosen 0 (state 0)
first_asks (choose {place = place} {e = e} holds point ty c) = inl (subst (λ (k : EntryData). Has k.env 0 (state 0)) (the_entry place e holds.at) (here (state 0) []))

asks_it : (n : ℕ) (chosen : List EntryData) (env : Env) → n ≡ 1 → AnyHas chosen 0 (state 0) → IsUnionOf n chosen env → AsksAtLeast AsStrongAs env asks_q0
asks_it n chosen env one any union zero a m =
    (state 0, ((union.union 0 (state 0) (omega (arith, one))).1 any, subst (λ (t : TypeTree). AsStrongAs (state 0) t) (sym (only (state 0) a m)) same_state))
asks_it n chosen env one any union (suc j) a m = absurd (none_in a m)

-- a call by F itself, with the second x; at the other points with arguments nothing can be chosen
blocked : (s : SiteData) (of : PointData) → s.given ≡ 0 → slice_get example.points.points s.point ≡ Some of → 0 < length of.args → IsBlocked example entries (of_f ∷ []) s asks_q0
blocked s of given at some d at_d places chosen are env union = by s.point at_d
  where
    no_arguments : (e : PointData) → Some e ≡ Some d → length e.args ≡ 0 → ⊥
    no_arguments e there empty =
        let same : length e.args ≡ length of.args = ap (λ (k : PointData). length k.args) (same_Some e d there ∙ sym (same_Some of d (sym at ∙ at_d))) in omega (arith, same, empty, some)

    found : (e : PointData) → Some e ≡ Some d → WeaklyChosen AsStrongAs example entries 0 e.args (sets_for asks_q0 0 e.args) places chosen
    found e there =
        subst (λ (k : PointData). WeaklyChosen AsStrongAs example entries 0 k.args (sets_for asks_q0 0 k.args) places chosen) (sym (same_Some e d there))
        (subst (λ g. WeaklyChosen AsStrongAs example entries 0 d.args (sets_for asks_q0 g d.args) places chosen) given are)

    by : (n : ℕ) → slice_get example.points.points n ≡ Some d → IsVoid example entries (of_f ∷ []) d.rule env
    by zero there = let no : 1 ≡ 5 = same_Some 1 5 (chosen_x (found (record { rule = 0; head = Nt 1; args = 1 ∷ [] }) there) 0 (state 0) (here (state 0) [])) in absurd (omega (arith, no))
    by (suc zero) there = absurd (no_arguments (record { rule = 0; head = Tm 1; args = [] }) there refl)
    by (suc (suc zero)) there = let no : 3 ≡ 5 = same_Some 3 5 (chosen_x (found (record { rule = 1; head = Tm 0; args = 3 ∷ 4 ∷ [] }) there) 0 (state 0) (here (state 0) [])) in absurd (omega (arith, no))
    by (suc (suc (suc zero))) there = absurd (no_arguments at_x there refl)
    by (suc (suc (suc (suc zero)))) there =
        let call : PointData = record { rule = 1; head = Nt 1; args = 5 ∷ [] } in
        let rule : 1 ≡ d.rule = ap (λ (k : PointData). k.rule) (same_Some call d there) in
        inl (of_f, (here of_f [], rule, asks_it (params_of example d.rule) chosen env (sym (ap (λ k. params_of example k) rule)) (first_asks (found call there)) union))
    by (suc (suc (suc (suc (suc zero))))) there = absurd (no_arguments at_x there refl)
    by (suc (suc (suc (suc (suc (suc n)))))) there = absurd (cc)

f_in_shape : IsVoidShape example of_f
f_in_shape = record { rule = omega arith; env = record { long = refl; sets = each_set }; types = each_type }

void : IsVoidList example entries (of_f ∷ [])
void v m = (
  subst (λ (k : VoidData). IsVoidShape example k) (sym is) f_in_shape,
  λ sites chain. by_sites sites (subst (λ k. IsChain example k sites) (ap (λ (k : VoidData). k.rule) is) chain),
)
  where
    is : v ≡ of_f
    is = only of_f v m

    by_sites : (sites : List SiteData) → IsChain example 1 sites → (s : SiteData) × (Contains sites s × IsBlocked example entries (of_f ∷ []) s v.env)
    by_sites [] e = absurd (omega (arith, e))
    by_sites (s ∷ sites) (given, (of, (site, rest))) =
        (s, (here s sites, subst (λ (k : VoidData). IsBlocked example entries (of_f ∷ []) s k.env) (sym is) (blocked s of given site.at site.some)))

pub certificate : IsAcceptanceCertificate example entries (of_f ∷ []) read_pairs
certificate = record {
  reads = closed;
  void = void;
  no_start = λ h. let no : h.0.env ≡ asks_q0 = ap (λ (k : EntryData). k.env) (only second_x h.0 h.1.1) in absurd (cc);
  covered = λ e follows matters. covered e e.point refl follows;
}

-- ---- without it

abbrev first_x : EntryData
first_x = record { point = 3; env = asks_q0; ty = state 0 }

x_follows : WeaklyFollows AsStrongAs example entries first_x
x_follows = (
  record { head = Param 0 0; args = [] },
  record {
    of = at_x;
    at = refl;
    sets = [];
    head = (refl, record { entry = second_x; holds = record { at = refl; shape = x_in_shape }; flows = (1, omega arith, refl); is = refl });
    chosen = [];
    are = done;
    env = record { long = refl; sets = each_set };
    union = λ j a lt. (λ h. inl (omega (arith, lt), type_asked j a h), λ any. elim any [ inl h ↦ is_asked j a h.0 h.1 | inr nowhere ↦ absurd nowhere ]);
  },
)
  where
    is_asked : (j : ℕ) (a : TypeTree) → j ≡ 0 → a ≡ state 0 → Has asks_q0 j a
    is_asked j a e t = subst (λ k. Has asks_q0 k a) (sym e) (subst (λ (u : TypeTree). Contains (state 0 ∷ []) u) (sym t) (here (state 0) []))

x_read : (R : List (ℕ × ℕ)) → IsClosedReads example R → Contains R (3, 0)
x_read R closed =
    let at_body : Contains R (0, 0) = closed 0 0 (reads_start refl) in
    let at_f : Contains R (2, 0) = closed 2 0 (reads_body {point = 0} {rule = 0} {f = 1} {args = 1 ∷ []} at_body refl refl) in
    closed 3 0 (reads_child {point = 2} {rule = 1} {a = 0} {q = 0} {args = 3 ∷ 4 ∷ []} {qs = 0 ∷ 0 ∷ []} 0 at_f refl refl refl refl)

abbrev call : SiteData
call = record { point = 4; given = 0 }

abbrev at_call : PointData
at_call = record { rule = 1; head = Nt 1; args = 5 ∷ [] }

call_is_site : IsSite example 1 call at_call
call_is_site = record { at = refl; base = (refl, refl); some = omega arith }

-- F hands the second x on, which has the entry
not_missed : Misses example entries call asks_q0 → ⊥
not_missed m =
    let same : at_call ≡ m.gives.of = same_Some at_call m.gives.of m.gives.at in
    let there = one_place 5 m.gives.place m.u (subst (λ (d : PointData). slice_get d.args m.gives.place ≡ Some m.u) (sym same) m.gives.argument) in
    m.lacks (0, second_x, (record { at = refl; shape = x_in_shape }, there.1, subst (λ (t : TypeTree). AsStrongAs (state 0) t) (sym (type_asked m.j m.t m.asked)) same_state))

pub not_without : (R : List (ℕ × ℕ)) → IsAcceptanceCertificate example entries [] R → ⊥
not_without R h = elim (h.covered first_x x_follows (x_read R h.reads)) [
  | inl k ↦
      let at_5 : 5 ≡ k.1.point = ap (λ (e : EntryData). e.point) (the_entry k.0 k.1 k.2.0.at) in
      let at_3 : k.1.point ≡ 3 = k.2.1.point in
      omega (arith, at_5, at_3)
  | inr (of, (at, void)) ↦ elim void [
    | inl v ↦ none_in v.0 v.1.0
    | inr missed ↦
        let rule : of.rule ≡ 1 = sym (ap (λ (d : PointData). d.rule) (same_Some at_x of at)) in
        let k = subst (λ g. IsMissed example entries g asks_q0) rule missed (call ∷ []) (refl, (at_call, (call_is_site, refl))) in
        not_missed (subst (λ (s : SiteData). Misses example entries s asks_q0) (only call k.0 k.1.0) k.1.1)
  ]
]
