-- Worked examples of certificates and of void lists.
--     `S -> F c. F x -> b x.` with `q0 b -> q1. q1 c -> .`
--         reads_closed     the body of S is read in q0, so is that of F; x is read in q1, and so is c
--         reads_least      no closed list lacks one of these four pairs
--         certificate      nothing that follows from no entries is read: no entries and no void environments are a certificate
--     the same with `q0 c -> .` in place of `q1 c -> .`
--         refused          c is rejected in q1, in which it is read, and S has no void environments: without entries there is no certificate,
--                          whatever the pairs and the void environments
--     `S -> F c. F x -> x.` with `q0 c -> .`
--         void             without entries no call gives F an argument that is rejected in q0
--         not_void         with the entry of c, too, it isn't blocked: its environment asks nothing of S
--     any problem
--         with_start       no entries with the start entry among them are a certificate
use Rattle.std.specs.Prelude.{◌≡◌, refl, ℕ, zero, suc, ◌<◌, List, [], ◌∷◌, length, slice_get, replicate, set, Option, Some, None, Contains}
use Rattle.std.proofs.Common.{sym, ◌∙◌, ap, subst, arith, inl, inr}
use Rattle.hs_scheme.specs.declared.term.Head.{Head}
use Rattle.hs_scheme.specs.declared.term.Head.TheVariants.{Var, Nt, Tm}
use Rattle.hs_scheme.specs.declared.term.Rule.{Rule}
use Rattle.hs_scheme.specs.Tree.{Tree, node, none, more}
use Rattle.hs_scheme.specs.flow.Points.{PointData, points_of}
use Rattle.hs_scheme.specs.acceptance.Transition.{TransitionData}
use Rattle.hs_scheme.specs.sorting.Sorting.{o, arrow}
use Rattle.hs_scheme.specs.Problem.{ProblemData}
use Rattle.hs_scheme.specs.acceptance.Automaton.{next}
use Rattle.hs_scheme.specs.declared.flow.FlowPair.{FlowPair}
use Rattle.hs_scheme.proofs.Lists.{none_in, here, uncons, only, Contains-at}
use Rattle.std.proofs.lemmas.Option.{same_Some}
use Rattle.hs_table.specs.declared.support.HeadBy.{HeadBy}
use Rattle.hs_table.specs.declared.support.HeadBy.TheVariants.{Terminal, Rule as FromRule, Param}
use Rattle.hs_table.specs.Types.{TypeTree, state, arrows, IsSet, IsType}
use Rattle.hs_table.specs.Entries.{Env, EntryData, Has, set_at, InShape, params_of}
use Rattle.hs_table.specs.Follows.{rank_of, IsHeadType, IsTerminalType}
use Rattle.hs_table.specs.Tables.{HasStart}
use Rattle.hs_table_laws.proofs.Arrows.{arrows_same}
use Rattle.hs_table_laws.proofs.Sets.{no_set, one_set}
use Rattle.hs_weak.specs.Strength.{AsStrongAs, same_state}
use Rattle.hs_weak.specs.Weak.{WeaklyChosen, done, next_argument, choose, WeaklyFollows}
use Rattle.hs_weak.specs.WeakExamples.{none_at, one_place, chosen_long}
use Rattle.hs_weak.specs.Reads.{PointIs, FlowsTo, reads_start, reads_body, reads_child, reads_flow, reads_later_child, IsClosedReads, IsReads, last_state}
use Rattle.hs_weak.specs.Sites.{SiteData, IsSite, IsChain}
use Rattle.hs_weak.specs.Void.{VoidData, IsVoid, sets_for, IsUnionOf, IsBlocked, IsVoidShape, IsVoidList}
use Rattle.hs_weak.specs.Certificate.{Matters, IsAcceptanceCertificate}

abbrev leaf : Head → Tree Head
leaf h = node h none

abbrev problem : List Rule → List ℕ → ℕ → List TransitionData → ProblemData
problem rules ranks states transitions = record {
  sorted = record {
    scheme = record { rules = rules; ranks = ranks };
    automaton = record { states = states; transitions = transitions };
    names = record { rules = []; params = []; terminals = []; states = [] };
    sorts = o ∷ arrow o o ∷ [];
  };
  points = points_of rules;
  flow = record { pairs = record { rule = 1; param = 0; point = 1 } ∷ []; heads = [] };
}

-- b is terminal 0 and c terminal 1; the points are 0 `F c`, 1 `c`, 2 `b x` and 3 `x`
abbrev reader : ProblemData
reader = problem
    (record { params = 0; body = node (Nt 1) (more (leaf (Tm 1)) none) } ∷ record { params = 1; body = node (Tm 0) (more (leaf (Var 0)) none) } ∷ [])
    (1 ∷ 0 ∷ []) 2 (record { from = 0; terminal = 0; to = 1 ∷ [] } ∷ record { from = 1; terminal = 1; to = [] } ∷ [])

abbrev read_pairs : List (ℕ × ℕ)
read_pairs = (0, 0) ∷ (2, 0) ∷ (3, 1) ∷ (1, 1) ∷ []

data_at : (p : ProblemData) (w : ℕ) (n : ℕ) (d e : PointData) → w ≡ n → slice_get p.points.points n ≡ Some d → slice_get p.points.points w ≡ Some e → d ≡ e
data_at p w n d e same there at = same_Some d e (sym there ∙ (sym (ap (λ k. slice_get p.points.points k) same) ∙ at))

-- a read pair is one of the four
data ReadCase (point q : ℕ) : Type 0 where
  at_0 : point ≡ 0 → q ≡ 0 → ReadCase point q
  at_2 : point ≡ 2 → q ≡ 0 → ReadCase point q
  at_3 : point ≡ 3 → q ≡ 1 → ReadCase point q
  at_1 : point ≡ 1 → q ≡ 1 → ReadCase point q

read_case : (point q : ℕ) → Contains read_pairs (point, q) → ReadCase point q
read_case point q m = elim (uncons (0, 0) (point, q) ((2, 0) ∷ (3, 1) ∷ (1, 1) ∷ []) m) [
  | inl e ↦ at_0 (ap (λ (k : ℕ × ℕ). k.0) e) (ap (λ (k : ℕ × ℕ). k.1) e)
  | inr m ↦ elim (uncons (2, 0) (point, q) ((3, 1) ∷ (1, 1) ∷ []) m) [
    | inl e ↦ at_2 (ap (λ (k : ℕ × ℕ). k.0) e) (ap (λ (k : ℕ × ℕ). k.1) e)
    | inr m ↦ elim (uncons (3, 1) (point, q) ((1, 1) ∷ []) m) [
      | inl e ↦ at_3 (ap (λ (k : ℕ × ℕ). k.0) e) (ap (λ (k : ℕ × ℕ). k.1) e)
      | inr m ↦ let e = only (1, 1) (point, q) m in at_1 (ap (λ (k : ℕ × ℕ). k.0) e) (ap (λ (k : ℕ × ℕ). k.1) e)
    ]
  ]
]

in_read : (i point q : ℕ) → slice_get read_pairs i ≡ Some (point, q) → Contains read_pairs (point, q)
in_read i point q e = Contains-at read_pairs i (point, q) e

abbrev head_0 : PointData
head_0 = record { rule = 0; head = Nt 1; args = 1 ∷ [] }

abbrev head_1 : PointData
head_1 = record { rule = 0; head = Tm 1; args = [] }

abbrev head_2 : PointData
head_2 = record { rule = 1; head = Tm 0; args = 3 ∷ [] }

abbrev head_3 : PointData
head_3 = record { rule = 1; head = Var 0; args = [] }

heads : (d : PointData) (rule : ℕ) (h : Head) (args : List ℕ) → d ≡ record { rule = rule; head = h; args = args } → (d.rule ≡ rule) × (d.head ≡ h) × (d.args ≡ args)
heads d rule h args e = (ap (λ (k : PointData). k.rule) e, ap (λ (k : PointData). k.head) e, ap (λ (k : PointData). k.args) e)

body_read : (w q rule f b : ℕ) (args : List ℕ) → ReadCase w q → PointIs reader w rule (Nt f) args → slice_get reader.points.bodies f ≡ Some b → Contains read_pairs (b, q)
body_read w q rule f b args (at_0 e k) at there =
    let h : Nt 1 ≡ Nt f = (heads head_0 rule (Nt f) args (data_at reader w 0 head_0 _ e refl at)).1 in
    let f_is : f ≡ 1 = cc in
    let b_is : 2 ≡ b = same_Some 2 b (sym (ap (λ z. slice_get reader.points.bodies z) f_is) ∙ there) in
    subst (λ z. Contains read_pairs (z, q)) b_is (subst (λ z. Contains read_pairs (2, z)) (sym k) (in_read 1 2 0 refl))
body_read w q rule f b args (at_2 e k) at there = let h : Tm 0 ≡ Nt f = (heads head_2 rule (Nt f) args (data_at reader w 2 head_2 _ e refl at)).1 in absurd (cc)
body_read w q rule f b args (at_3 e k) at there = let h : Var 0 ≡ Nt f = (heads head_3 rule (Nt f) args (data_at reader w 3 head_3 _ e refl at)).1 in absurd (cc)
body_read w q rule f b args (at_1 e k) at there = let h : Tm 1 ≡ Nt f = (heads head_1 rule (Nt f) args (data_at reader w 1 head_1 _ e refl at)).1 in absurd (cc)

child_read : (w q rule a i u r : ℕ) (args qs : List ℕ) → ReadCase w q → PointIs reader w rule (Tm a) args → next reader.sorted.automaton.transitions q a ≡ Some qs → slice_get args i ≡ Some u → slice_get qs i ≡ Some r
    → Contains read_pairs (u, r)
child_read w q rule a i u r args qs (at_0 e k) at moves at_u at_r = let h : Nt 1 ≡ Tm a = (heads head_0 rule (Tm a) args (data_at reader w 0 head_0 _ e refl at)).1 in absurd (cc)
child_read w q rule a i u r args qs (at_3 e k) at moves at_u at_r = let h : Var 0 ≡ Tm a = (heads head_3 rule (Tm a) args (data_at reader w 3 head_3 _ e refl at)).1 in absurd (cc)
child_read w q rule a i u r args qs (at_1 e k) at moves at_u at_r =
    let d = heads head_1 rule (Tm a) args (data_at reader w 1 head_1 _ e refl at) in
    absurd (none_at i u (subst (λ (xs : List ℕ). slice_get xs i ≡ Some u) (sym d.2) at_u))
child_read w q rule a i u r args qs (at_2 e k) at moves at_u at_r =
    let d = heads head_2 rule (Tm a) args (data_at reader w 2 head_2 _ e refl at) in
    let h : Tm 0 ≡ Tm a = d.1 in
    let a_is : a ≡ 0 = cc in
    let qs_is : 1 ∷ [] ≡ qs = same_Some (1 ∷ []) qs (sym (λ z. next reader.sorted.automaton.transitions (k z) (a_is z)) ∙ moves) in
    let u_at = one_place 3 i u (subst (λ (xs : List ℕ). slice_get xs i ≡ Some u) (sym d.2) at_u) in
    let r_at = one_place 1 i r (subst (λ (xs : List ℕ). slice_get xs i ≡ Some r) (sym qs_is) at_r) in
    subst (λ z. Contains read_pairs (z, r)) u_at.1 (subst (λ z. Contains read_pairs (3, z)) r_at.1 (in_read 2 3 1 refl))

flow_read : (w q rule x v : ℕ) (args : List ℕ) → ReadCase w q → PointIs reader w rule (Var x) args → FlowsTo reader rule x v → Contains read_pairs (v, q)
flow_read w q rule x v args (at_0 e k) at flows = let h : Nt 1 ≡ Var x = (heads head_0 rule (Var x) args (data_at reader w 0 head_0 _ e refl at)).1 in absurd (cc)
flow_read w q rule x v args (at_2 e k) at flows = let h : Tm 0 ≡ Var x = (heads head_2 rule (Var x) args (data_at reader w 2 head_2 _ e refl at)).1 in absurd (cc)
flow_read w q rule x v args (at_1 e k) at flows = let h : Tm 1 ≡ Var x = (heads head_1 rule (Var x) args (data_at reader w 1 head_1 _ e refl at)).1 in absurd (cc)
flow_read w q rule x v args (at_3 e k) at flows =
    let v_is : v ≡ 1 = ap (λ (f : FlowPair). f.point) (only (record { rule = 1; param = 0; point = 1 }) (record { rule = rule; param = x; point = v }) flows) in
    subst (λ z. Contains read_pairs (z, q)) (sym v_is) (subst (λ z. Contains read_pairs (1, z)) (sym k) (in_read 3 1 1 refl))

later_read : (w q rule x j u : ℕ) (args : List ℕ) → ReadCase w q → PointIs reader w rule (Var x) args → slice_get args j ≡ Some u → ⊥
later_read w q rule x j u args (at_0 e k) at at_u = let h : Nt 1 ≡ Var x = (heads head_0 rule (Var x) args (data_at reader w 0 head_0 _ e refl at)).1 in cc
later_read w q rule x j u args (at_2 e k) at at_u = let h : Tm 0 ≡ Var x = (heads head_2 rule (Var x) args (data_at reader w 2 head_2 _ e refl at)).1 in cc
later_read w q rule x j u args (at_1 e k) at at_u = let h : Tm 1 ≡ Var x = (heads head_1 rule (Var x) args (data_at reader w 1 head_1 _ e refl at)).1 in cc
later_read w q rule x j u args (at_3 e k) at at_u =
    let none : [] ≡ args = (heads head_3 rule (Var x) args (data_at reader w 3 head_3 _ e refl at)).2 in
    none_at j u (subst (λ (xs : List ℕ). slice_get xs j ≡ Some u) (sym none) at_u)

pub reads_closed : IsClosedReads reader read_pairs
reads_closed point q (reads_start e) = subst (λ z. Contains read_pairs (z, 0)) (same_Some 0 point e) (in_read 0 0 0 refl)
reads_closed point q (reads_body {point = w} {rule = rule} {f = f} {args = args} m at e) = body_read w q rule f point args (read_case w q m) at e
reads_closed point q (reads_child {point = w} {rule = rule} {a = a} {q = s} {args = args} {qs = qs} i m at moves at_u at_r) = child_read w s rule a i point q args qs (read_case w s m) at moves at_u at_r
reads_closed point q (reads_flow {point = w} {rule = rule} {x = x} {args = args} m at flows) = flow_read w q rule x point args (read_case w q m) at flows
reads_closed point q (reads_later_child {point = w} {rule = rule} {x = x} {q = s} {args = args} j m at flows becomes moves at_u at_r) = absurd (later_read w s rule x j point args (read_case w s m) at at_u)

-- each of the four is demanded by those before it
each_read : (S : List (ℕ × ℕ)) → IsClosedReads reader S → (point q : ℕ) → ReadCase point q → Contains S (point, q)
each_read S closed point q case = by case
  where
    at_body : Contains S (0, 0)
    at_body = closed 0 0 (reads_start refl)

    at_f : Contains S (2, 0)
    at_f = closed 2 0 (reads_body {point = 0} {rule = 0} {f = 1} {args = 1 ∷ []} at_body refl refl)

    at_x : Contains S (3, 1)
    at_x = closed 3 1 (reads_child {point = 2} {rule = 1} {a = 0} {q = 0} {args = 3 ∷ []} {qs = 1 ∷ []} 0 at_f refl refl refl refl)

    at_arg : Contains S (1, 1)
    at_arg = closed 1 1 (reads_flow {point = 3} {rule = 1} {x = 0} {args = []} at_x refl (here (record { rule = 1; param = 0; point = 1 }) []))

    there : (n r : ℕ) → point ≡ n → q ≡ r → Contains S (n, r) → Contains S (point, q)
    there n r e k m = subst (λ z. Contains S (z, q)) (sym e) (subst (λ z. Contains S (n, z)) (sym k) m)

    by : ReadCase point q → Contains S (point, q)
    by (at_0 e k) = there 0 0 e k at_body
    by (at_2 e k) = there 2 0 e k at_f
    by (at_3 e k) = there 3 1 e k at_x
    by (at_1 e k) = there 1 1 e k at_arg

pub reads_least : IsReads reader read_pairs
reads_least = record { closed = reads_closed; least = λ S closed point q m. each_read S closed point q (read_case point q m) }

-- nothing is chosen from no entries
none_chosen : (R : TypeTree → TypeTree → Type 0) (p : ProblemData) {i : ℕ} {us : List ℕ} {ss : Env} {args : List (ℕ × ℕ)} {es : List EntryData} → WeaklyChosen R p [] i us ss args es → (j : ℕ) (a : TypeTree) → Has ss j a → ⊥
none_chosen R p done j a h = none_in a h
none_chosen R p (next_argument c) zero a h = none_in a h
none_chosen R p (next_argument c) (suc j) a h = none_chosen R p c j a h
none_chosen R p (choose {place = place} {e = e} holds point ty c) j a h = none_at place e holds.at

last_of : (ss : Env) (t : TypeTree) → last_state (arrows ss t) ≡ last_state t
last_of [] t = refl
last_of (s ∷ ss) t = last_of ss t

abbrev moves_of : ℕ → ℕ → Option (List ℕ)
moves_of q a = next reader.sorted.automaton.transitions q a

-- a terminal's entry that follows from no entries, with its last state
terminal_unread : (w a q : ℕ) (child : Option ℕ) (rule : ℕ) (args : List ℕ) (sets : Env) (ty : TypeTree) (places : List (ℕ × ℕ)) (chosen : List EntryData) → PointIs reader w rule (Tm a) args
    → IsTerminalType reader a q child (arrows sets ty) → WeaklyChosen AsStrongAs reader [] 0 args sets places chosen → ReadCase w q → ⊥
terminal_unread w a q child rule args sets ty places chosen at is are (at_0 e k) = let h : Nt 1 ≡ Tm a = (heads head_0 rule (Tm a) args (data_at reader w 0 head_0 _ e refl at)).1 in cc
terminal_unread w a q child rule args sets ty places chosen at is are (at_3 e k) = let h : Var 0 ≡ Tm a = (heads head_3 rule (Tm a) args (data_at reader w 3 head_3 _ e refl at)).1 in cc
terminal_unread w a q None rule args sets ty places chosen at is are (at_1 e k) =
    let h : Tm 1 ≡ Tm a = (heads head_1 rule (Tm a) args (data_at reader w 1 head_1 _ e refl at)).1 in
    let a_is : a ≡ 1 = cc in
    let no : Some [] ≡ (let o : Option (List ℕ) = None in o) = sym (λ z. moves_of (k z) (a_is z)) ∙ is.moves in cc
terminal_unread w a q (Some c) rule args sets ty places chosen at is are (at_1 e k) =
    let h : Tm 1 ≡ Tm a = (heads head_1 rule (Tm a) args (data_at reader w 1 head_1 _ e refl at)).1 in
    let a_is : a ≡ 1 = cc in
    let none : [] ≡ is.qs = same_Some [] is.qs (sym (λ z. moves_of (k z) (a_is z)) ∙ is.moves) in
    none_at is.place is.r (subst (λ (xs : List ℕ). slice_get xs is.place ≡ Some is.r) (sym none) is.at)
terminal_unread w a q None rule args sets ty places chosen at is are (at_2 e k) =
    let h : Tm 0 ≡ Tm a = (heads head_2 rule (Tm a) args (data_at reader w 2 head_2 _ e refl at)).1 in
    let a_is : a ≡ 0 = cc in
    let no : Some (1 ∷ []) ≡ (let o : Option (List ℕ) = None in o) = sym (λ z. moves_of (k z) (a_is z)) ∙ is.moves in cc
terminal_unread w a q (Some c) rule args sets ty places chosen at is are (at_2 e k) =
    let d = heads head_2 rule (Tm a) args (data_at reader w 2 head_2 _ e refl at) in
    let h : Tm 0 ≡ Tm a = d.1 in
    let a_is : a ≡ 0 = cc in
    let qs_is : 1 ∷ [] ≡ is.qs = same_Some (1 ∷ []) is.qs (sym (λ z. moves_of (k z) (a_is z)) ∙ is.moves) in
    let there = one_place 1 is.place is.r (subst (λ (xs : List ℕ). slice_get xs is.place ≡ Some is.r) (sym qs_is) is.at) in
    let one_set : Env = (state 1 ∷ []) ∷ [] in
    let whole : arrows sets ty ≡ arrows one_set (state q) = is.is ∙ sym (λ z. arrows (set (replicate (length (qs_is z)) []) (sym there.0 z) (state (there.1 z) ∷ [])) (state q)) in
    let long : length sets ≡ 1 = chosen_long AsStrongAs reader [] are ∙ sym (ap length d.2) in
    let same : sets ≡ one_set = (arrows_same sets one_set ty (state q) long whole).0 in
    none_chosen AsStrongAs reader are 0 (state 1) (subst (λ (ss : Env). Has ss 0 (state 1)) (sym same) (here (state 1) []))

last_terminal : (a q : ℕ) (child : Option ℕ) (sets : Env) (ty : TypeTree) → IsTerminalType reader a q child (arrows sets ty) → last_state ty ≡ q
last_terminal a q None sets ty is = sym (last_of sets ty) ∙ (ap last_state is.is ∙ last_of (replicate (rank_of reader a) []) (state q))
last_terminal a q (Some c) sets ty is = sym (last_of sets ty) ∙ (ap last_state is.is ∙ last_of (set (replicate (length is.qs) []) is.place (state is.r ∷ [])) (state q))

-- nothing that follows from no entries is read
nothing_read : (e : EntryData) → WeaklyFollows AsStrongAs reader [] e → Matters read_pairs e → ⊥
nothing_read e (s, f) matters = by_head f.of.rule f.of.head f.of.args s.head f.at f.head f.are
  where
    by_head : (rule : ℕ) (h : Head) (args : List ℕ) (by : HeadBy) → PointIs reader e.point rule h args → IsHeadType reader [] rule h by (arrows f.sets e.ty)
        → WeaklyChosen AsStrongAs reader [] 0 args f.sets s.args f.chosen → ⊥
    by_head rule (Tm a) args (Terminal q child) at (lt, is) are =
        terminal_unread e.point a q child rule args f.sets e.ty s.args f.chosen at is are
        (read_case e.point q (subst (λ z. Contains read_pairs (e.point, z)) (last_terminal a q child f.sets e.ty is) matters))
    by_head rule (Tm a) args (FromRule place) at x are = x
    by_head rule (Tm a) args (Param y place) at x are = x
    by_head rule (Nt g) args (Terminal q child) at x are = x
    by_head rule (Nt g) args (FromRule place) at x are = none_at place x.entry x.holds.at
    by_head rule (Nt g) args (Param y place) at x are = x
    by_head rule (Var y) args (Terminal q child) at x are = x
    by_head rule (Var y) args (FromRule place) at x are = x
    by_head rule (Var y) args (Param z place) at x are = none_at place x.1.entry x.1.holds.at

pub certificate : IsAcceptanceCertificate reader [] [] read_pairs
certificate = record {
  reads = reads_closed;
  void = λ v m. absurd (none_in v m);
  no_start = λ h. none_in h.0 h.1.1;
  covered = λ e follows matters. absurd (nothing_read e follows matters);
}

abbrev rejecting : ProblemData
rejecting = problem reader.sorted.scheme.rules (1 ∷ 0 ∷ []) 2 (record { from = 0; terminal = 0; to = 1 ∷ [] } ∷ record { from = 0; terminal = 1; to = [] } ∷ [])

abbrev c_in_q1 : EntryData
c_in_q1 = record { point = 1; env = []; ty = state 1 }

c_follows : WeaklyFollows AsStrongAs rejecting [] c_in_q1
c_follows = (
  record { head = Terminal 1 None; args = [] },
  record {
    of = head_1;
    at = refl;
    sets = [];
    head = (omega arith, record { moves = refl; is = refl });
    chosen = [];
    are = done;
    env = record { long = refl; sets = λ j. no_set };
    union = λ j a lt. absurd (omega (arith, lt));
  },
)

-- as above, each pair is demanded by the one before it
c_read : (R : List (ℕ × ℕ)) → IsClosedReads rejecting R → Contains R (1, 1)
c_read R closed =
    let at_body : Contains R (0, 0) = closed 0 0 (reads_start refl) in
    let at_f : Contains R (2, 0) = closed 2 0 (reads_body {point = 0} {rule = 0} {f = 1} {args = 1 ∷ []} at_body refl refl) in
    let at_x : Contains R (3, 1) = closed 3 1 (reads_child {point = 2} {rule = 1} {a = 0} {q = 0} {args = 3 ∷ []} {qs = 1 ∷ []} 0 at_f refl refl refl refl) in
    closed 1 1 (reads_flow {point = 3} {rule = 1} {x = 0} {args = []} at_x refl (here (record { rule = 1; param = 0; point = 1 }) []))

-- S has the empty chain, in which no site is blocked, and none misses a type
void_for_none : (p : ProblemData) (C : List EntryData) (V : List VoidData) → IsVoidList p C V → (G : ℕ) (E : Env) → params_of p G ≡ 0 → IsVoid p C V G E → ⊥
void_for_none p C V list G E no_params (inl (v, (m, same, asks))) = let b = (list v m).1 [] (sym (ap (λ k. params_of p k) same ∙ no_params)) in none_in b.0 b.1.0
void_for_none p C V list G E no_params (inr missed) = let b = missed [] (sym no_params) in none_in b.0 b.1.0

pub refused : (V : List VoidData) (R : List (ℕ × ℕ)) → IsAcceptanceCertificate rejecting [] V R → ⊥
refused V R h = elim (h.covered c_in_q1 c_follows (c_read R h.reads)) [
  | inl k ↦ none_at k.0 k.1 k.2.0.at
  | inr (of, (at, void)) ↦ let is : head_1 ≡ of = same_Some head_1 of at in void_for_none rejecting [] V h.void of.rule [] (sym (ap (λ (d : PointData). params_of rejecting d.rule) is)) void
]

pub with_start : (p : ProblemData) (C : List EntryData) (V : List VoidData) (R : List (ℕ × ℕ)) → HasStart p C → IsAcceptanceCertificate p C V R → ⊥
with_start p C V R start h = h.no_start start

-- the points are 0 `F c`, 1 `c` and 2 `x`
abbrev caller : ProblemData
caller = problem
    (record { params = 0; body = node (Nt 1) (more (leaf (Tm 0)) none) } ∷ record { params = 1; body = leaf (Var 0) } ∷ [])
    (0 ∷ []) 1 (record { from = 0; terminal = 0; to = [] } ∷ [])

abbrev asks_q0 : VoidData
asks_q0 = record { rule = 1; env = (state 0 ∷ []) ∷ [] }

-- whatever site a chain of F begins with, its first argument lacks an entry
blocked : (s : SiteData) (of : PointData) → s.given ≡ 0 → IsSite caller 1 s of → IsBlocked caller [] (asks_q0 ∷ []) s asks_q0.env
blocked s of given site d at places chosen are env union =
    let same : of ≡ d = same_Some of d (sym site.at ∙ at) in
    absurd (by_arguments d.args (subst (λ (k : PointData). 0 < length k.args) same site.some) are)
  where
    by_arguments : (us : List ℕ) → 0 < length us → WeaklyChosen AsStrongAs caller [] 0 us (sets_for asks_q0.env s.given us) places chosen → ⊥
    by_arguments [] lt c = omega (arith, lt)
    by_arguments (u ∷ us) lt c = none_chosen AsStrongAs caller c 0 (state 0) (subst (λ k. Contains (set_at asks_q0.env k) (state 0)) (sym given) (here (state 0) []))

f_in_shape : IsVoidShape caller asks_q0
f_in_shape = record { rule = omega arith; env = record { long = refl; sets = each_set }; types = each_type }
  where
    each_set : (j : ℕ) → IsSet (set_at asks_q0.env j)
    each_set zero = one_set (state 0)
    each_set (suc j) = no_set

    each_type : (j : ℕ) (a : TypeTree) → Has asks_q0.env j a → IsType 1 a
    each_type zero a m = subst (λ (t : TypeTree). IsType 1 t) (sym (only (state 0) a m)) (omega arith, refl)
    each_type (suc j) a m = absurd (none_in a m)

pub void : IsVoidList caller [] (asks_q0 ∷ [])
void v m = (
  subst (λ (k : VoidData). IsVoidShape caller k) (sym is) f_in_shape,
  λ sites chain. by_sites sites (subst (λ k. IsChain caller k sites) (ap (λ (k : VoidData). k.rule) is) chain),
)
  where
    is : v ≡ asks_q0
    is = only asks_q0 v m

    by_sites : (sites : List SiteData) → IsChain caller 1 sites → (s : SiteData) × (Contains sites s × IsBlocked caller [] (asks_q0 ∷ []) s v.env)
    by_sites [] e = absurd (omega (arith, e))
    by_sites (s ∷ sites) (given, (of, (site, rest))) = (s, (here s sites, subst (λ (k : VoidData). IsBlocked caller [] (asks_q0 ∷ []) s k.env) (sym is) (blocked s of given site)))

abbrev at_c : EntryData
at_c = record { point = 1; env = []; ty = state 0 }

c_in_shape : InShape caller at_c
c_in_shape = record {
  of = record { rule = 0; head = Tm 0; args = [] };
  at = refl;
  env = record { long = refl; sets = λ j. no_set };
  types = λ j a m. absurd (none_in a m);
  ty = (omega arith, refl);
}

abbrev call : SiteData
call = record { point = 0; given = 0 }

abbrev at_call : PointData
at_call = record { rule = 0; head = Nt 1; args = 1 ∷ [] }

call_is_site : IsSite caller 1 call at_call
call_is_site = record { at = refl; base = (refl, refl); some = omega arith }

pub not_void : IsVoidList caller (at_c ∷ []) (asks_q0 ∷ []) → ⊥
not_void list =
    let b = (list asks_q0 (here asks_q0 [])).1 (call ∷ []) (refl, (at_call, (call_is_site, refl))) in
    let here_blocked = subst (λ (s : SiteData). IsBlocked caller (at_c ∷ []) (asks_q0 ∷ []) s asks_q0.env) (only call b.0 b.1.0) b.1.1 in
    let chosen : WeaklyChosen AsStrongAs caller (at_c ∷ []) 0 (1 ∷ []) ((state 0 ∷ []) ∷ []) ((0, 0) ∷ []) (at_c ∷ []) =
    choose (record { at = refl; shape = c_in_shape }) refl same_state (next_argument done) in
    elim (here_blocked at_call refl ((0, 0) ∷ []) (at_c ∷ []) chosen [] nothing) [
      | inl k ↦ let is : k.0 ≡ asks_q0 = only asks_q0 k.0 k.1.0 in let no : 1 ≡ 0 = sym (ap (λ (v : VoidData). v.rule) is) ∙ k.1.1 in omega (arith, no)
      | inr missed ↦ let k = missed [] refl in none_in k.0 k.1.0
    ]
  where
    nothing : IsUnionOf 0 (at_c ∷ []) []
    nothing = record { is_env = record { long = refl; sets = λ j. no_set }; union = λ j a lt. absurd (omega (arith, lt)) }
