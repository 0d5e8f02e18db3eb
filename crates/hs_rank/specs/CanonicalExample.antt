-- A worked example: `S -> br a b.` with `q0 br -> q0 q0.`, where a and b have no transition in state 0.
--     canonical     points 1 and 2, `a` and `b`, are rejected in the first round, in this order, and point 0 in the second, by the first of them
use Rattle.std.specs.Prelude.{◌≡◌, ◌≢◌, refl, ℕ, zero, suc, ◌≤◌, Bool, true, false, ◌&&◌, nat_eq, option_map, List, [], ◌∷◌, ◌++◌, length, map, take, replicate, set, slice_get, Option, Some, None, Contains, ◌⊎◌, AllPairs}
use Rattle.std.proofs.Common.{sym, ◌∙◌, ap, subst, arith, inl, inr}
use Rattle.std.specs.Ordering.{nat_cmp, ordering_then}
use Rattle.std.specs.declared.cmp.Ordering.{Ordering}
use Rattle.std.specs.declared.cmp.Ordering.TheVariants.{Less, Equal, Greater}
use Rattle.std.proofs.lemmas.Bool.Decides.{nat_tests}
use Rattle.hs_scheme.specs.declared.term.Head.TheVariants.{Tm}
use Rattle.hs_scheme.specs.declared.term.Rule.{Rule}
use Rattle.hs_scheme.specs.acceptance.Automaton.{next}
use Rattle.hs_scheme.specs.acceptance.Transition.{TransitionData}
use Rattle.hs_scheme.specs.Tree.{node, none, more}
use Rattle.hs_scheme.specs.flow.Points.{PointData, points_of}
use Rattle.hs_scheme.specs.sorting.Sorting.{o}
use Rattle.hs_scheme.specs.Problem.{ProblemData}
use Rattle.hs_scheme.proofs.Lists.{none_in, here, later, uncons, only, Contains-at}
use Rattle.std.proofs.lemmas.Bool.{cases_eq, cases_lt, cond-false}
use Rattle.std.proofs.lemmas.Option.{same_Some}
use Rattle.hs_table.specs.declared.support.HeadBy.{HeadBy}
use Rattle.hs_table.specs.declared.support.HeadBy.TheVariants.{Terminal, Rule as ByRule, Param}
use Rattle.hs_table.specs.Types.{TypeTree, state, arrows, IsSet}
use Rattle.hs_table.specs.Entries.{Env, EntryData, Has, IsEnv, InShape, params_of}
use Rattle.hs_table.specs.Follows.{rank_of, IsHeadType, Chosen, done, next_argument, choose, Support, FollowsBy, Follows, head_premise, premises}
use Rattle.hs_table.specs.Tables.{IsClosedTable}
use Rattle.hs_table_laws.proofs.Arrows.{arrows_same}
use Rattle.hs_table_laws.proofs.Growing.{by_append}
use Rattle.hs_rules.specs.Order.{places_cmp}
use Rattle.hs_rank.specs.Canonical.{IsRound, HasRank, IsByRank, IsCanonicalSupport, IsCanonicalLog}

abbrev rules : List Rule
rules = record { params = 0; body = node (Tm 0) (more (node (Tm 1) none) (more (node (Tm 2) none) none)) } ∷ []

abbrev transitions : List TransitionData
transitions = record { from = 0; terminal = 0; to = 0 ∷ 0 ∷ [] } ∷ []

abbrev pub example : ProblemData
example = record {
  sorted = record {
    scheme = record { rules = rules; ranks = 2 ∷ 0 ∷ 0 ∷ [] };
    automaton = record { states = 1; transitions = transitions };
    names = record { rules = []; params = []; terminals = []; states = [] };
    sorts = o ∷ [];
  };
  points = points_of rules;
  flow = record { pairs = []; heads = [] };
}

abbrev pub at_a : EntryData
at_a = record { point = 1; env = []; ty = state 0 }

abbrev pub at_b : EntryData
at_b = record { point = 2; env = []; ty = state 0 }

abbrev pub at_start : EntryData
at_start = record { point = 0; env = []; ty = state 0 }

abbrev start_point : PointData
start_point = record { rule = 0; head = Tm 0; args = 1 ∷ 2 ∷ [] }

abbrev a_point : PointData
a_point = record { rule = 0; head = Tm 1; args = [] }

abbrev b_point : PointData
b_point = record { rule = 0; head = Tm 2; args = [] }

abbrev by_nothing : Support
by_nothing = record { head = Terminal 0 None; args = [] }

abbrev by_a : Support
by_a = record { head = Terminal 0 (Some 1); args = (0, 0) ∷ [] }

nothing_has : (j : ℕ) (a : TypeTree) → Has [] j a → ⊥
nothing_has j a (k, below, is) = absurd (omega (arith, below))

none_is_set : IsSet []
none_is_set i j d before below = absurd (omega (arith, below))

no_sets : IsEnv 0 []
no_sets = record { long = refl; sets = λ j. none_is_set }

a_in_shape : InShape example at_a
a_in_shape = record { of = a_point; at = refl; env = no_sets; types = λ j a has. absurd (nothing_has j a has); ty = (omega arith, refl) }

a_follows : FollowsBy example [] by_nothing at_a
a_follows = record {
  of = a_point;
  at = refl;
  sets = [];
  head = (omega arith, record { moves = refl; is = refl });
  chosen = [];
  are = done;
  env = no_sets;
  union = λ j a below. absurd (omega (arith, below));
}

b_follows : FollowsBy example [] by_nothing at_b
b_follows = record {
  of = b_point;
  at = refl;
  sets = [];
  head = (omega arith, record { moves = refl; is = refl });
  chosen = [];
  are = done;
  env = no_sets;
  union = λ j a below. absurd (omega (arith, below));
}

abbrev first_two : List EntryData
first_two = at_a ∷ at_b ∷ []

start_follows : FollowsBy example first_two by_a at_start
start_follows = record {
  of = start_point;
  at = refl;
  sets = (state 0 ∷ []) ∷ [] ∷ [];
  head = (omega arith, record { qs = 0 ∷ 0 ∷ []; place = 0; r = 0; moves = refl; at = refl; counted = refl; is = refl });
  chosen = at_a ∷ [];
  are = choose (record { at = refl; shape = a_in_shape }) refl refl (next_argument (next_argument done));
  env = no_sets;
  union = λ j a below. absurd (omega (arith, below));
}

-- nothing else follows: what is chosen where one set has one type
abbrev first_set : Env → List TypeTree
first_set [] = []
first_set (s ∷ ss) = s

abbrev other_sets : Env → Env
other_sets [] = []
other_sets (s ∷ ss) = ss

abbrev other_types : List TypeTree → List TypeTree
other_types [] = []
other_types (y ∷ ys) = ys

abbrev places : List (ℕ × ℕ) → List ℕ
places args = map (λ a. a.1) args

as_long : {p : ProblemData} {E : List EntryData} {i : ℕ} {us : List ℕ} {ss : Env} {args : List (ℕ × ℕ)} {es : List EntryData} → Chosen p E i us ss args es → length ss ≡ length us
as_long done = refl
as_long (next_argument c) = ap suc (as_long c)
as_long (choose at point ty c) = as_long c

none_chosen : {p : ProblemData} {E : List EntryData} {i : ℕ} {us : List ℕ} {ss : Env} {args : List (ℕ × ℕ)} {es : List EntryData} → Chosen p E i us ss args es → (k : ℕ) → ss ≡ replicate k [] → places args ≡ []
none_chosen done k e = refl
none_chosen (next_argument c) zero e = absurd (cc)
none_chosen (next_argument c) (suc k) e = none_chosen c k (ap other_sets e)
none_chosen (choose at point ty c) zero e = absurd (cc)
none_chosen (choose {a = a} {s = s} at point ty c) (suc k) e = absurd (let f : a ∷ s ≡ [] = ap first_set e in cc)

record IsOne (p : ProblemData) (E : List EntryData) (us : List ℕ) (k : ℕ) (args : List (ℕ × ℕ)) : Type 0 where
  place : ℕ
  entry : EntryData
  by : places args ≡ place ∷ []
  at : slice_get E place ≡ Some entry
  point : slice_get us k ≡ Some entry.point

one_chosen : {p : ProblemData} {E : List EntryData} {i : ℕ} {us : List ℕ} {ss : Env} {args : List (ℕ × ℕ)} {es : List EntryData} → Chosen p E i us ss args es → (k m : ℕ) (t : TypeTree) → ss ≡ replicate k [] ++ (t ∷ []) ∷ replicate m [] → IsOne p E us k args
one_chosen done zero m t e = absurd (cc)
one_chosen done (suc k) m t e = absurd (cc)
one_chosen (next_argument c) zero m t e = absurd (let f : [] ≡ t ∷ [] = ap first_set e in cc)
one_chosen (next_argument c) (suc k) m t e = let r = one_chosen c k m t (ap other_sets e) in record { place = r.place; entry = r.entry; by = r.by; at = r.at; point = r.point }
one_chosen (choose {place = place} {s = s} {ss = ss} {e = x} at point ty c) zero m t e =
    let rest = none_chosen c (suc m) (λ i. other_types (first_set (e i)) ∷ other_sets (e i)) in
    record { place = place; entry = x; by = ap (λ (ps : List ℕ). place ∷ ps) rest; at = at.at; point = ap (λ (u : ℕ). Some u) (sym point) }
one_chosen (choose {a = a} {s = s} at point ty c) (suc k) m t e = absurd (let f : a ∷ s ≡ [] = ap first_set e in cc)

empty_list : {X : Type 0} (xs : List X) → length xs ≡ 0 → xs ≡ []
empty_list [] e = refl
empty_list (x ∷ xs) e = absurd (omega (arith, e))

abbrev IsOneOf : ℕ → PointData → Type 0
IsOneOf n of = ((n ≡ 0) × (of ≡ start_point)) ⊎ (((n ≡ 1) × (of ≡ a_point)) ⊎ ((n ≡ 2) × (of ≡ b_point)))

points : (n : ℕ) (of : PointData) → slice_get example.points.points n ≡ Some of → IsOneOf n of
points zero of e = inl (refl, same_Some of start_point (sym e))
points (suc zero) of e = inr (inl (refl, same_Some of a_point (sym e)))
points (suc (suc zero)) of e = inr (inr (refl, same_Some of b_point (sym e)))
points (suc (suc (suc n))) of e = absurd (let f : None ≡ Some of = e in cc)

-- what follows at point 0 follows by a child
record ByChild (E : List EntryData) (t : TypeTree) (args : List (ℕ × ℕ)) : Type 0 where
  ty : t ≡ state 0
  place : ℕ
  entry : EntryData
  by : places args ≡ place ∷ []
  at : slice_get E place ≡ Some entry
  is_child : (entry.point ≡ 1) ⊎ (entry.point ≡ 2)

by_child : (E : List EntryData) (k r : ℕ) (sets : Env) (t : TypeTree) (args : List (ℕ × ℕ)) (es : List EntryData) → slice_get (0 ∷ 0 ∷ []) k ≡ Some r → arrows sets t ≡ arrows (set (replicate 2 []) k (state r ∷ [])) (state 0)
    → Chosen example E 0 (1 ∷ 2 ∷ []) sets args es → ByChild E t args
by_child E zero r sets t args es at is are =
    let same = arrows_same sets (set (replicate 2 []) 0 (state r ∷ [])) t (state 0) (as_long are) is in
    let one = one_chosen are 0 1 (state r) same.0 in
    record { ty = same.1; place = one.place; entry = one.entry; by = one.by; at = one.at; is_child = inl (sym (same_Some 1 one.entry.point one.point)) }
by_child E (suc zero) r sets t args es at is are =
    let same = arrows_same sets (set (replicate 2 []) 1 (state r ∷ [])) t (state 0) (as_long are) is in
    let one = one_chosen are 1 0 (state r) same.0 in
    record { ty = same.1; place = one.place; entry = one.entry; by = one.by; at = one.at; is_child = inr (sym (same_Some 2 one.entry.point one.point)) }
by_child E (suc (suc k)) r sets t args es at is are = absurd (let f : None ≡ Some r = at in cc)

abbrev moves_of : ℕ → Option (List ℕ)
moves_of q = next transitions q 0

record IsStartBy (E : List EntryData) (s : Support) (t : TypeTree) : Type 0 where
  ty : t ≡ state 0
  place : ℕ
  entry : EntryData
  by : premises s ≡ place ∷ []
  at : slice_get E place ≡ Some entry
  is_child : (entry.point ≡ 1) ⊎ (entry.point ≡ 2)

start_by : (E : List EntryData) (head : HeadBy) (sets : Env) (t : TypeTree) (args : List (ℕ × ℕ)) (es : List EntryData) → IsHeadType example E 0 (Tm 0) head (arrows sets t) → Chosen example E 0 (1 ∷ 2 ∷ []) sets args es
    → IsStartBy E (record { head = head; args = args }) t
start_by E (Terminal q None) sets t args es x are =
    let zeroth : q ≡ 0 = omega (arith, x.0) in
    absurd (let f : Some (0 ∷ 0 ∷ []) ≡ None = ap moves_of (sym zeroth) ∙ x.1.moves in cc)
start_by E (Terminal q (Some child)) sets t args es x are =
    let zeroth : q ≡ 0 = omega (arith, x.0) in
    let k = x.1 in
    let qs_is : k.qs ≡ 0 ∷ 0 ∷ [] = sym (same_Some (0 ∷ 0 ∷ []) k.qs (ap moves_of (sym zeroth) ∙ k.moves)) in
    let at = subst (λ (xs : List ℕ). slice_get xs k.place ≡ Some k.r) qs_is k.at in
    let is = k.is ∙ (λ i. arrows (set (replicate (length (qs_is i)) []) k.place (state k.r ∷ [])) (state (zeroth i))) in
    let by = by_child E k.place k.r sets t args es at is are in
    record { ty = by.ty; place = by.place; entry = by.entry; by = by.by; at = by.at; is_child = by.is_child }
start_by E (ByRule place) sets t args es x are = absurd x
start_by E (Param y place) sets t args es x are = absurd x

-- a terminal without a transition and without arguments
leaf_by : (E : List EntryData) (a : ℕ) → rank_of example a ≡ 0 → ((q : ℕ) → next transitions q a ≡ None) → (head : HeadBy) (t : TypeTree) → IsHeadType example E 0 (Tm a) head t → (t ≡ state 0) × (head_premise head ≡ [])
leaf_by E a rank stops (Terminal q None) t x = let zeroth : q ≡ 0 = omega (arith, x.0) in (x.1.is ∙ (λ i. arrows (replicate (rank i) []) (state (zeroth i))), refl)
leaf_by E a rank stops (Terminal q (Some child)) t x = absurd (let f : None ≡ Some x.1.qs = sym (stops q) ∙ x.1.moves in cc)
leaf_by E a rank stops (ByRule place) t x = absurd x
leaf_by E a rank stops (Param y place) t x = absurd x

never : (b : Bool) → (b && false) ≡ false
never true = refl
never false = refl

abbrev move : TransitionData
move = record { from = 0; terminal = 0; to = 0 ∷ 0 ∷ [] }

stops_at_a : (q : ℕ) → next transitions q 1 ≡ None
stops_at_a q = ap (λ (m : Option TransitionData). option_map (λ (t : TransitionData). t.to) m) (cond-false (nat_eq 0 q && false) (Some move) None (never (nat_eq 0 q)))

stops_at_b : (q : ℕ) → next transitions q 2 ≡ None
stops_at_b q = ap (λ (m : Option TransitionData). option_map (λ (t : TransitionData). t.to) m) (cond-false (nat_eq 0 q && false) (Some move) None (never (nat_eq 0 q)))

no_arguments : {p : ProblemData} {E : List EntryData} {i : ℕ} {us : List ℕ} {ss : Env} {args : List (ℕ × ℕ)} {es : List EntryData} → Chosen p E i us ss args es → us ≡ [] → (ss ≡ []) × (places args ≡ [])
no_arguments done e = (refl, refl)
no_arguments (next_argument c) e = absurd (cc)
no_arguments (choose at point ty c) e = absurd (cc)

leaf_follows : (E : List EntryData) (n a : ℕ) (s : Support) (e : EntryData) → rank_of example a ≡ 0 → ((q : ℕ) → next transitions q a ≡ None) → (h : FollowsBy example E s e) → e.point ≡ n → h.of ≡ record { rule = 0; head = Tm a; args = [] }
    → (e ≡ record { point = n; env = []; ty = state 0 }) × (premises s ≡ [])
leaf_follows E n a s e rank stops h at of =
    let none = no_arguments h.are (ap (λ (q : PointData). q.args) of) in
    let env = empty_list e.env (h.env.long ∙ ap (λ (q : PointData). params_of example q.rule) of) in
    let head = subst (λ (q : PointData). IsHeadType example E q.rule q.head s.head (arrows h.sets e.ty)) of h.head in
    let by = leaf_by E a rank stops s.head e.ty (subst (λ (ss : Env). IsHeadType example E 0 (Tm a) s.head (arrows ss e.ty)) none.0 head) in
    (λ i. record { point = at i; env = env i; ty = by.0 i }, (λ i. by.1 i ++ none.1 i))

abbrev WhatFollows : List EntryData → Support → EntryData → Type 0
WhatFollows E s e = (((e ≡ at_a) ⊎ (e ≡ at_b)) × (premises s ≡ [])) ⊎ ((e ≡ at_start) × IsStartBy E s e.ty)

what_follows : (E : List EntryData) (s : Support) (e : EntryData) → FollowsBy example E s e → WhatFollows E s e
what_follows E s e h = elim (points e.point h.of h.at) [
  | inl (at, of) ↦
      let env = empty_list e.env (h.env.long ∙ ap (λ (q : PointData). params_of example q.rule) of) in
      let head = subst (λ (q : PointData). IsHeadType example E q.rule q.head s.head (arrows h.sets e.ty)) of h.head in
      let are = subst (λ (q : PointData). Chosen example E 0 q.args h.sets s.args h.chosen) of h.are in
      let by = start_by E s.head h.sets e.ty s.args h.chosen head are in
      inr (λ i. record { point = at i; env = env i; ty = by.ty i }, by)
  | inr (inl (at, of)) ↦ let leaf = leaf_follows E 1 1 s e refl stops_at_a h at of in inl (inl leaf.0, leaf.1)
  | inr (inr (at, of)) ↦ let leaf = leaf_follows E 2 2 s e refl stops_at_b h at of in inl (inr leaf.0, leaf.1)
]

abbrev log : List EntryData
log = at_a ∷ at_b ∷ at_start ∷ []

a_in_two : Contains first_two at_a
a_in_two = here at_a (at_b ∷ [])

b_in_two : Contains first_two at_b
b_in_two = later at_a at_b (at_b ∷ []) (here at_b [])

a_in_log : Contains log at_a
a_in_log = here at_a (at_b ∷ at_start ∷ [])

b_in_log : Contains log at_b
b_in_log = later at_a at_b (at_b ∷ at_start ∷ []) (here at_b (at_start ∷ []))

start_in_log : Contains log at_start
start_in_log = later at_a at_start (at_b ∷ at_start ∷ []) (later at_b at_start (at_start ∷ []) (here at_start []))

cases_two : (e : EntryData) → Contains first_two e → (e ≡ at_a) ⊎ (e ≡ at_b)
cases_two e c = elim (uncons at_a e (at_b ∷ []) c) [
  | inl is ↦ inl is
  | inr there ↦ inr (only at_b e there)
]

-- the rounds
not_start : (e : EntryData) → e ≡ at_start → (e ≡ at_a) ⊎ (e ≡ at_b) → ⊥
not_start e is (inl a) = absurd (omega (arith, ap (λ (x : EntryData). x.point) (sym is ∙ a)))
not_start e is (inr b) = absurd (omega (arith, ap (λ (x : EntryData). x.point) (sym is ∙ b)))

first_round : IsRound example 1 first_two
first_round = (
  [],
  (
    λ e c. none_in e c,
    λ e. (
      λ c. elim (cases_two e c) [
        | inl a ↦ inr (subst (λ x. Follows example [] x) (sym a) (by_nothing, a_follows))
        | inr b ↦ inr (subst (λ x. Follows example [] x) (sym b) (by_nothing, b_follows))
      ],
      λ k. elim k [
        | inl was ↦ absurd (none_in e was)
        | inr (s, f) ↦ elim (what_follows [] s e f) [
          | inl (inl a, by) ↦ subst (λ x. Contains first_two x) (sym a) a_in_two
          | inl (inr b, by) ↦ subst (λ x. Contains first_two x) (sym b) b_in_two
          | inr (is, by) ↦ absurd (none_in by.entry (Contains-at [] by.place by.entry by.at))
        ]
      ],
    ),
  ),
)

second_round : IsRound example 2 log
second_round = (
  first_two,
  (
    first_round,
    λ e. (
      λ c. elim (uncons at_a e (at_b ∷ at_start ∷ []) c) [
        | inl a ↦ inl (subst (λ x. Contains first_two x) (sym a) a_in_two)
        | inr there ↦ elim (uncons at_b e (at_start ∷ []) there) [
          | inl b ↦ inl (subst (λ x. Contains first_two x) (sym b) b_in_two)
          | inr last ↦ inr (subst (λ x. Follows example first_two x) (sym (only at_start e last)) (by_a, start_follows))
        ]
      ],
      λ k. elim k [
        | inl was ↦ elim (cases_two e was) [
          | inl a ↦ subst (λ x. Contains log x) (sym a) a_in_log
          | inr b ↦ subst (λ x. Contains log x) (sym b) b_in_log
        ]
        | inr (s, f) ↦ elim (what_follows first_two s e f) [
          | inl (inl a, by) ↦ subst (λ x. Contains log x) (sym a) a_in_log
          | inl (inr b, by) ↦ subst (λ x. Contains log x) (sym b) b_in_log
          | inr (is, by) ↦ subst (λ x. Contains log x) (sym is) start_in_log
        ]
      ],
    ),
  ),
)

first_rank : (e : EntryData) → Contains first_two e → HasRank example 1 e
first_rank e has = record {
  round = first_two;
  is = first_round;
  has = has;
  first = λ m E lt is there. let zeroth : m ≡ 0 = omega (arith, lt) in subst (λ k. IsRound example k E) zeroth is e there;
}

not_first : (E : List EntryData) → IsRound example 1 E → Contains E at_start → ⊥
not_first E (D, (empty, ds)) has = elim ((ds at_start).0 has) [
  | inl was ↦ empty at_start was
  | inr (s, f) ↦ elim (what_follows D s at_start f) [
    | inl (these, by) ↦ not_start at_start refl these
    | inr (is, by) ↦ empty by.entry (Contains-at D by.place by.entry by.at)
  ]
]

rank_of_start : HasRank example 2 at_start
rank_of_start = record {
  round = log;
  is = second_round;
  has = start_in_log;
  first = λ m E lt is has. elim (cases_eq m 0) [
    | inl zeroth ↦ subst (λ k. IsRound example k E) zeroth is at_start has
    | inr some ↦ let one : m ≡ 1 = omega (arith, lt, some) in not_first E (subst (λ k. IsRound example k E) one is) has
  ];
}

at_most : (m : ℕ) → HasRank example m at_a → m ≤ 1
at_most m r = elim (cases_lt 1 m) [
  | inl lt ↦ absurd (r.first 1 first_two lt first_round a_in_two)
  | inr le ↦ le
]

at_least : (n : ℕ) → HasRank example n at_start → 2 ≤ n
at_least zero r = absurd (r.is at_start r.has)
at_least (suc zero) r = absurd (not_first r.round r.is r.has)
at_least (suc (suc n)) r = omega arith

-- a and b have one rank, and a is the lesser entry
in_order : IsByRank example log
in_order zero zero d lt below = absurd (omega (arith, lt))
in_order zero (suc zero) d lt below = record { m = 1; n = 1; one = first_rank at_a a_in_two; other = first_rank at_b b_in_two; order = inr (refl, refl) }
in_order zero (suc (suc zero)) d lt below = record { m = 1; n = 2; one = first_rank at_a a_in_two; other = rank_of_start; order = inl (omega arith) }
in_order zero (suc (suc (suc j))) d lt below = absurd (omega (arith, below))
in_order (suc zero) zero d lt below = absurd (omega (arith, lt))
in_order (suc zero) (suc zero) d lt below = absurd (omega (arith, lt))
in_order (suc zero) (suc (suc zero)) d lt below = record { m = 1; n = 2; one = first_rank at_b b_in_two; other = rank_of_start; order = inl (omega arith) }
in_order (suc zero) (suc (suc (suc j))) d lt below = absurd (omega (arith, below))
in_order (suc (suc i)) j d lt below = absurd (omega (arith, lt, below))

distinct : AllPairs (λ a b. a ≢ b) log
distinct zero zero d lt below is = absurd (omega (arith, lt))
distinct zero (suc zero) d lt below is = absurd (omega (arith, ap (λ (e : EntryData). e.point) is))
distinct zero (suc (suc zero)) d lt below is = absurd (omega (arith, ap (λ (e : EntryData). e.point) is))
distinct zero (suc (suc (suc j))) d lt below is = absurd (omega (arith, below))
distinct (suc zero) zero d lt below is = absurd (omega (arith, lt))
distinct (suc zero) (suc zero) d lt below is = absurd (omega (arith, lt))
distinct (suc zero) (suc (suc zero)) d lt below is = absurd (omega (arith, ap (λ (e : EntryData). e.point) is))
distinct (suc zero) (suc (suc (suc j))) d lt below is = absurd (omega (arith, below))
distinct (suc (suc i)) j d lt below is = absurd (omega (arith, lt, below))

follow : (i : ℕ) (e : EntryData) → slice_get log i ≡ Some e → Follows example (take i log) e
follow zero e at = subst (λ x. Follows example [] x) (same_Some at_a e at) (by_nothing, a_follows)
follow (suc zero) e at = subst (λ x. Follows example (at_a ∷ []) x) (same_Some at_b e at) (by_nothing, by_append example [] (at_a ∷ []) by_nothing at_b b_follows)
follow (suc (suc zero)) e at = subst (λ x. Follows example first_two x) (same_Some at_start e at) (by_a, start_follows)
follow (suc (suc (suc i))) e at = absurd (let f : None ≡ Some e = at in cc)

closed : IsClosedTable example log
closed e (s, f) = elim (what_follows log s e f) [
  | inl (inl a, by) ↦ subst (λ x. Contains log x) (sym a) a_in_log
  | inl (inr b, by) ↦ subst (λ x. Contains log x) (sym b) b_in_log
  | inr (is, by) ↦ subst (λ x. Contains log x) (sym is) start_in_log
]

-- the supports
nothing_least : (e : EntryData) → FollowsBy example [] by_nothing e → IsCanonicalSupport example log by_nothing e
nothing_least e follows = record {
  lower = record { follows = by_append example [] log by_nothing e follows; lower = λ place m n d c at r q. absurd (none_in place c) };
  least = λ r lower. not_greater (premises r);
}
  where
    not_greater : (xs : List ℕ) → places_cmp [] xs ≡ Greater → ⊥
    not_greater [] e = absurd (cc)
    not_greater (x ∷ xs) e = absurd (cc)

-- by the first child, and not by the second
start_support : IsCanonicalSupport example log by_a at_start
start_support = record {
  lower = record {
    follows = by_append example first_two (at_start ∷ []) by_a at_start start_follows;
    lower = λ place m n d c at r q.
        let none : place ≡ 0 = only 0 place c in
        let is : at_a ≡ d = same_Some at_a d (subst (λ k. slice_get log k ≡ Some d) none at) in
        let low = at_most m (subst (λ x. HasRank example m x) (sym is) r) in
        omega (arith, low, at_least n q);
  };
  least = λ r lower. elim (what_follows log r at_start lower.follows) [
    | inl (these, by) ↦ absurd (not_start at_start refl these)
    | inr (is, by) ↦ λ e. not_greater by.place (subst (λ xs. places_cmp (0 ∷ []) xs ≡ Greater) by.by e)
  ];
}
  where
    by : (x : ℕ) (first : Ordering) → nat_cmp 0 x ≡ first → ordering_then first Equal ≡ Greater → ⊥
    by x Less is e = absurd (let f : Less ≡ Greater = e in cc)
    by x Equal is e = absurd (let f : Equal ≡ Greater = e in cc)
    by x Greater is e = grind (arith, nat_tests)

    not_greater : (x : ℕ) → places_cmp (0 ∷ []) (x ∷ []) ≡ Greater → ⊥
    not_greater x e = by x (nat_cmp 0 x) refl e

abbrev supports : List Support
supports = by_nothing ∷ by_nothing ∷ by_a ∷ []

pub canonical : IsCanonicalLog example log supports
canonical = record {
  least = record { supported = record { distinct = distinct; follows = follow }; closed = closed };
  order = in_order;
  each = refl;
  support = each_support;
}
  where
    each_support : (place : ℕ) (s : Support) (e : EntryData) → slice_get supports place ≡ Some s → slice_get log place ≡ Some e → IsCanonicalSupport example log s e
    each_support zero s e is at = subst (λ x. IsCanonicalSupport example log s x) (same_Some at_a e at) (subst (λ r. IsCanonicalSupport example log r at_a) (same_Some by_nothing s is) (nothing_least at_a a_follows))
    each_support (suc zero) s e is at = subst (λ x. IsCanonicalSupport example log s x) (same_Some at_b e at) (subst (λ r. IsCanonicalSupport example log r at_b) (same_Some by_nothing s is) (nothing_least at_b b_follows))
    each_support (suc (suc zero)) s e is at = subst (λ x. IsCanonicalSupport example log s x) (same_Some at_start e at) (subst (λ r. IsCanonicalSupport example log r at_start) (same_Some by_a s is) start_support)
    each_support (suc (suc (suc k))) s e is at = absurd (let f : None ≡ Some e = at in cc)
