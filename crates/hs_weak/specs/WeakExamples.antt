-- A worked example of what weakly follows: `S -> a b.` with `q0 a -> q0.`
--     derived       b is rejected in q0, and so is `a b`, by its child: each entry weakly follows from those before it
--     compact       nothing else follows, and the two don't cover each other
--     not_compact   a list of two entries at one point, one with x:{} and one with x:{q1}, isn't compact
use Rattle.std.specs.Prelude.{◌≡◌, refl, ◌≢◌, ℕ, zero, suc, ◌<◌, List, [], ◌∷◌, length, slice_get, replicate, set, Option, Some, None, Contains}
use Rattle.std.proofs.Common.{sym, ◌∙◌, ap, subst, arith, inl, inr}
use Rattle.std.proofs.lemmas.Option.{same_Some}
use Rattle.hs_scheme.specs.declared.term.Head.TheVariants.{Tm}
use Rattle.hs_scheme.specs.declared.term.Rule.{Rule}
use Rattle.hs_scheme.specs.Tree.{node, none, more}
use Rattle.hs_scheme.specs.flow.Points.{points_of}
use Rattle.hs_scheme.specs.sorting.Sorting.{o}
use Rattle.hs_scheme.specs.Problem.{ProblemData}
use Rattle.hs_scheme.specs.flow.Points.{PointData}
use Rattle.hs_scheme.specs.acceptance.Automaton.{next}
use Rattle.hs_scheme.proofs.Lists.{none_in, here, later, uncons, only}
use Rattle.hs_table.specs.declared.support.HeadBy.{HeadBy}
use Rattle.hs_table.specs.declared.support.HeadBy.TheVariants.{Terminal, Rule as FromRule, Param}
use Rattle.hs_table.specs.Types.{TypeTree, state, arrows}
use Rattle.hs_table.specs.Entries.{Env, IsEnv, EntryData, InShape}
use Rattle.hs_table.specs.Follows.{IsHeadType, IsTerminalType}
use Rattle.hs_table_laws.proofs.Arrows.{arrows_same}
use Rattle.hs_table_laws.proofs.Sets.{no_set}
use Rattle.hs_weak.specs.Strength.{AsStrongAs, same_state}
use Rattle.hs_weak.specs.StrengthExamples.{asks_nothing, asks_q1, covers}
use Rattle.hs_weak.specs.Weak.{WeaklyChosen, done, next_argument, choose, WeaklyFollows, EachWeaklyFollows, IsCoveredIn, IsCompact}

-- a and b are the terminals 0 and 1, and the points are 0 `a b` and 1 `b`
abbrev rules : List Rule
rules = record { params = 0; body = node (Tm 0) (more (node (Tm 1) none) none) } ∷ []

abbrev example : ProblemData
example = record {
  sorted = record {
    scheme = record { rules = rules; ranks = 1 ∷ 0 ∷ [] };
    automaton = record { states = 1; transitions = record { from = 0; terminal = 0; to = 0 ∷ [] } ∷ [] };
    names = record { rules = []; params = []; terminals = []; states = [] };
    sorts = o ∷ [];
  };
  points = points_of rules;
  flow = record { pairs = []; heads = [] };
}

abbrev at_b : EntryData
at_b = record { point = 1; env = []; ty = state 0 }

abbrev at_a : EntryData
at_a = record { point = 0; env = []; ty = state 0 }

no_parameters : IsEnv 0 []
no_parameters = record { long = refl; sets = λ j. no_set }

b_in_shape : InShape example at_b
b_in_shape = record {
  of = record { rule = 0; head = Tm 1; args = [] };
  at = refl;
  env = no_parameters;
  types = λ j a m. absurd (none_in a m);
  ty = (omega arith, refl);
}

b_follows : WeaklyFollows AsStrongAs example [] at_b
b_follows = (
  record { head = Terminal 0 None; args = [] },
  record {
    of = record { rule = 0; head = Tm 1; args = [] };
    at = refl;
    sets = [];
    head = (omega arith, record { moves = refl; is = refl });
    chosen = [];
    are = done;
    env = no_parameters;
    union = λ j a lt. absurd (omega (arith, lt));
  },
)

a_follows : WeaklyFollows AsStrongAs example (at_b ∷ []) at_a
a_follows = (
  record { head = Terminal 0 (Some 1); args = (0, 0) ∷ [] },
  record {
    of = record { rule = 0; head = Tm 0; args = 1 ∷ [] };
    at = refl;
    sets = (state 0 ∷ []) ∷ [];
    head = (omega arith, record { qs = 0 ∷ []; place = 0; r = 0; moves = refl; at = refl; counted = refl; is = refl });
    chosen = at_b ∷ [];
    are = choose (record { at = refl; shape = b_in_shape }) refl same_state (next_argument done);
    env = no_parameters;
    union = λ j a lt. absurd (omega (arith, lt));
  },
)

pub derived : EachWeaklyFollows AsStrongAs example (at_b ∷ at_a ∷ [])
derived zero e at = subst (λ (x : EntryData). WeaklyFollows AsStrongAs example [] x) (same_Some at_b e at) b_follows
derived (suc zero) e at = subst (λ (x : EntryData). WeaklyFollows AsStrongAs example (at_b ∷ []) x) (same_Some at_a e at) a_follows
derived (suc (suc i)) e at = absurd (cc)

pub none_at : {A : Type 0} (i : ℕ) (x : A) → slice_get [] i ≡ Some x → ⊥
none_at i x e = cc

pub one_place : (x i y : ℕ) → slice_get (x ∷ []) i ≡ Some y → (i ≡ 0) × (x ≡ y)
one_place x zero y e = (refl, same_Some x y e)
one_place x (suc i) y e = absurd (cc)

pub chosen_long : (R : TypeTree → TypeTree → Type 0) (p : ProblemData) (E : List EntryData) {i : ℕ} {us : List ℕ} {ss : Env} {args : List (ℕ × ℕ)} {es : List EntryData} → WeaklyChosen R p E i us ss args es → length ss ≡ length us
chosen_long R p E done = refl
chosen_long R p E (next_argument c) = ap suc (chosen_long R p E c)
chosen_long R p E (choose holds point ty c) = chosen_long R p E c

abbrev both : List EntryData
both = at_a ∷ at_b ∷ []

a_in_shape : InShape example at_a
a_in_shape = record {
  of = record { rule = 0; head = Tm 0; args = 1 ∷ [] };
  at = refl;
  env = no_parameters;
  types = λ j a m. absurd (none_in a m);
  ty = (omega arith, refl);
}

abbrev moves_of : ℕ → ℕ → Option (List ℕ)
moves_of q a = next example.sorted.automaton.transitions q a

no_sets : (sets : Env) (t u : TypeTree) → length sets ≡ 0 → arrows sets t ≡ u → t ≡ u
no_sets [] t u long e = e
no_sets (s ∷ sets) t u long e = absurd (omega (arith, long))

only_state : (q : ℕ) → q < 1 → q ≡ 0
only_state q lt = omega (arith, lt)

-- b's type is q0, and so is that of `a b`
b_type : (q : ℕ) (child : Option ℕ) (sets : Env) (ty : TypeTree) → q ≡ 0 → length sets ≡ 0 → IsTerminalType example 1 q child (arrows sets ty) → ty ≡ state 0
b_type q None sets ty k long is = no_sets sets ty (state q) long is.is ∙ ap state k
b_type q (Some c) sets ty k long is = let no : (let o : Option (List ℕ) = None in o) ≡ Some is.qs = sym (λ z. moves_of (k z) 1) ∙ is.moves in absurd (cc)

a_type : (q : ℕ) (child : Option ℕ) (sets : Env) (ty : TypeTree) → q ≡ 0 → length sets ≡ 1 → IsTerminalType example 0 q child (arrows sets ty) → ty ≡ state 0
a_type q None sets ty k long is = let no : Some (0 ∷ []) ≡ (let o : Option (List ℕ) = None in o) = sym (λ z. moves_of (k z) 0) ∙ is.moves in absurd (cc)
a_type q (Some c) sets ty k long is =
    let qs_is : 0 ∷ [] ≡ is.qs = same_Some (0 ∷ []) is.qs (sym (λ z. moves_of (k z) 0) ∙ is.moves) in
    let there = one_place 0 is.place is.r (subst (λ (xs : List ℕ). slice_get xs is.place ≡ Some is.r) (sym qs_is) is.at) in
    let one_set : Env = (state 0 ∷ []) ∷ [] in
    let whole : arrows sets ty ≡ arrows one_set (state q) = is.is ∙ sym (λ z. arrows (set (replicate (length (qs_is z)) []) (sym there.0 z) (state (there.1 z) ∷ [])) (state q)) in
    (arrows_same sets one_set ty (state q) long whole).1 ∙ ap state k

-- what follows from the two at a point of this kind has the type q0
abbrev HasState : PointData → Type 0
HasState of =
    (by : HeadBy) (sets : Env) (ty : TypeTree) (places : List (ℕ × ℕ)) (chosen : List EntryData) → IsHeadType example both of.rule of.head by (arrows sets ty)
    → WeaklyChosen AsStrongAs example both 0 of.args sets places chosen → ty ≡ state 0

a_has : HasState (record { rule = 0; head = Tm 0; args = 1 ∷ [] })
a_has (Terminal q child) sets ty places chosen (lt, is) are = a_type q child sets ty (only_state q lt) (chosen_long AsStrongAs example both are) is
a_has (FromRule place) sets ty places chosen is are = absurd is
a_has (Param y place) sets ty places chosen is are = absurd is

b_has : HasState (record { rule = 0; head = Tm 1; args = [] })
b_has (Terminal q child) sets ty places chosen (lt, is) are = b_type q child sets ty (only_state q lt) (chosen_long AsStrongAs example both are) is
b_has (FromRule place) sets ty places chosen is are = absurd is
b_has (Param y place) sets ty places chosen is are = absurd is

covered : (e : EntryData) (n : ℕ) → e.point ≡ n → WeaklyFollows AsStrongAs example both e → IsCoveredIn AsStrongAs example both e
covered e zero at (s, f) =
    let d : PointData = record { rule = 0; head = Tm 0; args = 1 ∷ [] } in
    let is : d ≡ f.of = same_Some d f.of (sym (ap (λ k. slice_get example.points.points k) at) ∙ f.at) in
    let ty : e.ty ≡ state 0 = subst HasState is a_has s.head f.sets e.ty s.args f.chosen f.head f.are in
    (0, at_a, (record { at = refl; shape = a_in_shape }, record { point = sym at; ty = subst (λ (t : TypeTree). AsStrongAs (state 0) t) (sym ty) same_state; env = λ j a m. absurd (none_in a m) }))
covered e (suc zero) at (s, f) =
    let d : PointData = record { rule = 0; head = Tm 1; args = [] } in
    let is : d ≡ f.of = same_Some d f.of (sym (ap (λ k. slice_get example.points.points k) at) ∙ f.at) in
    let ty : e.ty ≡ state 0 = subst HasState is b_has s.head f.sets e.ty s.args f.chosen f.head f.are in
    (1, at_b, (record { at = refl; shape = b_in_shape }, record { point = sym at; ty = subst (λ (t : TypeTree). AsStrongAs (state 0) t) (sym ty) same_state; env = λ j a m. absurd (none_in a m) }))
covered e (suc (suc n)) at (s, f) = let past : (let o : Option PointData = None in o) ≡ Some f.of = sym (ap (λ k. slice_get example.points.points k) at) ∙ f.at in absurd (cc)

apart : (i j : ℕ) (a b : EntryData) → slice_get both i ≡ Some a → slice_get both j ≡ Some b → i ≢ j → a.point ≡ b.point → ⊥
apart zero zero a b at_i at_j ne e = ne refl
apart zero (suc zero) a b at_i at_j ne e = let no : 0 ≡ 1 = ap (λ (x : EntryData). x.point) (same_Some at_a a at_i) ∙ (e ∙ sym (ap (λ (x : EntryData). x.point) (same_Some at_b b at_j))) in omega (arith, no)
apart (suc zero) zero a b at_i at_j ne e = let no : 1 ≡ 0 = ap (λ (x : EntryData). x.point) (same_Some at_b a at_i) ∙ (e ∙ sym (ap (λ (x : EntryData). x.point) (same_Some at_a b at_j))) in omega (arith, no)
apart (suc zero) (suc zero) a b at_i at_j ne e = ne refl
apart (suc (suc i)) j a b at_i at_j ne e = cc
apart zero (suc (suc j)) a b at_i at_j ne e = cc
apart (suc zero) (suc (suc j)) a b at_i at_j ne e = cc

derived_both : (e : EntryData) → Contains both e → Contains (at_b ∷ at_a ∷ []) e
derived_both e m = elim (uncons at_a e (at_b ∷ []) m) [
  | inl is ↦ subst (λ (x : EntryData). Contains (at_b ∷ at_a ∷ []) x) (sym is) (later at_b at_a (at_a ∷ []) (here at_a []))
  | inr there ↦ subst (λ (x : EntryData). Contains (at_b ∷ at_a ∷ []) x) (sym (only at_b e there)) (here at_b (at_a ∷ []))
]

pub compact : IsCompact example both
compact = record {
  apart = λ i j a b at_i at_j ne h. apart i j a b at_i at_j ne h.point;
  from = at_b ∷ at_a ∷ [];
  derived = derived;
  within = derived_both;
  closed = λ e follows. covered e e.point refl follows;
}

pub not_compact : (p : ProblemData) → IsCompact p (asks_nothing ∷ asks_q1 ∷ []) → ⊥
not_compact p h = h.apart 0 1 asks_nothing asks_q1 refl refl (λ e. omega (arith, e)) covers
