-- A worked example of environments that are void by way of one another: `S -> F c. F x -> G x. G y -> F y.` with `q0 c -> .` The calls
-- `G x` and `F y` hand on what they were given, and `F c` gives an argument that isn't rejected.
--     circle       no call gives F or G an argument that is rejected in q0: the pair of either is void by way of the other's
--     not_alone    without the pair of G that of F isn't void, as G may hand on such an argument
use Rattle.std.specs.Prelude.{◌≡◌, refl, ℕ, zero, suc, ◌<◌, List, [], ◌∷◌, length, slice_get, Some, Contains}
use Rattle.std.proofs.Common.{sym, ◌∙◌, ap, subst, arith, inl, inr}
use Rattle.std.proofs.lemmas.Option.{same_Some}
use Rattle.hs_scheme.specs.declared.term.Head.{Head}
use Rattle.hs_scheme.specs.declared.term.Head.TheVariants.{Var, Nt, Tm}
use Rattle.hs_scheme.specs.declared.term.Rule.{Rule}
use Rattle.hs_scheme.specs.Tree.{Tree, node, none, more}
use Rattle.hs_scheme.specs.flow.Points.{PointData, points_of}
use Rattle.hs_scheme.specs.sorting.Sorting.{o, arrow}
use Rattle.hs_scheme.specs.Problem.{ProblemData}
use Rattle.hs_scheme.proofs.Lists.{none_in, here, later, uncons, only}
use Rattle.hs_table.specs.Types.{TypeTree, state, IsSet, IsType}
use Rattle.hs_table.specs.Entries.{Env, EntryData, set_at, Has, InShape, params_of}
use Rattle.hs_table.specs.Follows.{AnyHas}
use Rattle.hs_table_laws.proofs.Sets.{no_set, one_set}
use Rattle.hs_weak.specs.Strength.{AsStrongAs, same_state, AsksAtLeast}
use Rattle.hs_weak.specs.Weak.{WeaklyChosen, done, next_argument, choose}
use Rattle.hs_weak.specs.WeakExamples.{one_place}
use Rattle.hs_weak.specs.Sites.{SiteData, IsSite, IsChain}
use Rattle.hs_weak.specs.Void.{Misses, VoidData, IsVoid, sets_for, IsUnionOf, IsBlocked, IsVoidShape, IsVoidPair, IsVoidList}

abbrev leaf : Head → Tree Head
leaf h = node h none

-- the points are 0 `F c`, 1 `c`, 2 `G x`, 3 `x`, 4 `F y` and 5 `y`
abbrev rules : List Rule
rules =
    record { params = 0; body = node (Nt 1) (more (leaf (Tm 0)) none) }
    ∷ record { params = 1; body = node (Nt 2) (more (leaf (Var 0)) none) }
    ∷ record { params = 1; body = node (Nt 1) (more (leaf (Var 0)) none) }
    ∷ []

abbrev handing : ProblemData
handing = record {
  sorted = record {
    scheme = record { rules = rules; ranks = 0 ∷ [] };
    automaton = record { states = 1; transitions = record { from = 0; terminal = 0; to = [] } ∷ [] };
    names = record { rules = []; params = []; terminals = []; states = [] };
    sorts = o ∷ arrow o o ∷ arrow o o ∷ [];
  };
  points = points_of rules;
  flow = record { pairs = record { rule = 1; param = 0; point = 1 } ∷ record { rule = 1; param = 0; point = 5 } ∷ record { rule = 2; param = 0; point = 3 } ∷ []; heads = [] };
}

abbrev asks_q0 : Env
asks_q0 = (state 0 ∷ []) ∷ []

-- a parameter is rejected where what stands for it is
abbrev at_x : EntryData
at_x = record { point = 3; env = asks_q0; ty = state 0 }

abbrev at_y : EntryData
at_y = record { point = 5; env = asks_q0; ty = state 0 }

abbrev entries : List EntryData
entries = at_x ∷ at_y ∷ []

abbrev of_f : VoidData
of_f = record { rule = 1; env = asks_q0 }

abbrev of_g : VoidData
of_g = record { rule = 2; env = asks_q0 }

abbrev pairs : List VoidData
pairs = of_f ∷ of_g ∷ []

data EntryCase (e : EntryData) : Type 0 where
  is_x : e ≡ at_x → EntryCase e
  is_y : e ≡ at_y → EntryCase e

entry_case : (place : ℕ) (e : EntryData) → slice_get entries place ≡ Some e → EntryCase e
entry_case zero e at = is_x (sym (same_Some at_x e at))
entry_case (suc zero) e at = is_y (sym (same_Some at_y e at))
entry_case (suc (suc i)) e at = absurd (cc)

-- the points with arguments
data CallCase (d : PointData) : Type 0 where
  calls_with_c : d.args ≡ 1 ∷ [] → CallCase d
  calls_with_x : d.rule ≡ 1 → d.args ≡ 3 ∷ [] → CallCase d
  calls_with_y : d.rule ≡ 2 → d.args ≡ 5 ∷ [] → CallCase d

no_arguments : (d : PointData) → d.args ≡ [] → 0 < length d.args → ⊥
no_arguments d e lt = let n : length d.args ≡ 0 = ap length e in omega (arith, n, lt)

call_case : (n : ℕ) (d : PointData) → slice_get handing.points.points n ≡ Some d → 0 < length d.args → CallCase d
call_case zero d at some = calls_with_c (sym (ap (λ (k : PointData). k.args) (same_Some (record { rule = 0; head = Nt 1; args = 1 ∷ [] }) d at)))
call_case (suc zero) d at some = absurd (no_arguments d (sym (ap (λ (k : PointData). k.args) (same_Some (record { rule = 0; head = Tm 0; args = [] }) d at))) some)
call_case (suc (suc zero)) d at some =
    let is = same_Some (record { rule = 1; head = Nt 2; args = 3 ∷ [] }) d at in
    calls_with_x (sym (ap (λ (k : PointData). k.rule) is)) (sym (ap (λ (k : PointData). k.args) is))
call_case (suc (suc (suc zero))) d at some = absurd (no_arguments d (sym (ap (λ (k : PointData). k.args) (same_Some (record { rule = 1; head = Var 0; args = [] }) d at))) some)
call_case (suc (suc (suc (suc zero)))) d at some =
    let is = same_Some (record { rule = 2; head = Nt 1; args = 5 ∷ [] }) d at in
    calls_with_y (sym (ap (λ (k : PointData). k.rule) is)) (sym (ap (λ (k : PointData). k.args) is))
call_case (suc (suc (suc (suc (suc zero))))) d at some = absurd (no_arguments d (sym (ap (λ (k : PointData). k.args) (same_Some (record { rule = 2; head = Var 0; args = [] }) d at))) some)
call_case (suc (suc (suc (suc (suc (suc n)))))) d at some = absurd (cc)

-- the entry that was chosen first
record First (u : ℕ) (chosen : List EntryData) : Type 0 where
  place : ℕ
  e : EntryData
  at : slice_get entries place ≡ Some e
  point : e.point ≡ u
  asks : (j : ℕ) (b : TypeTree) → Has e.env j b → AnyHas chosen j b

first : {i u : ℕ} {us : List ℕ} {a : TypeTree} {s : List TypeTree} {ss : Env} {places : List (ℕ × ℕ)} {chosen : List EntryData} → WeaklyChosen AsStrongAs handing entries i (u ∷ us) ((a ∷ s) ∷ ss) places chosen → First u chosen
first (choose {place = place} {e = e} holds point ty c) = record { place = place; e = e; at = holds.at; point = point; asks = λ j b h. inl h }

-- whichever it is, it asks its parameter to be rejected in q0
first_asks : (u : ℕ) (chosen : List EntryData) → First u chosen → AnyHas chosen 0 (state 0)
first_asks u chosen f = by (entry_case f.place f.e f.at)
  where
    by : EntryCase f.e → AnyHas chosen 0 (state 0)
    by (is_x e) = f.asks 0 (state 0) (subst (λ (x : EntryData). Has x.env 0 (state 0)) (sym e) (here (state 0) []))
    by (is_y e) = f.asks 0 (state 0) (subst (λ (x : EntryData). Has x.env 0 (state 0)) (sym e) (here (state 0) []))

first_not_c : (chosen : List EntryData) → First 1 chosen → ⊥
first_not_c chosen f = by (entry_case f.place f.e f.at)
  where
    by : EntryCase f.e → ⊥
    by (is_x e) = let no : 3 ≡ 1 = sym (ap (λ (x : EntryData). x.point) e) ∙ f.point in omega (arith, no)
    by (is_y e) = let no : 5 ≡ 1 = sym (ap (λ (x : EntryData). x.point) e) ∙ f.point in omega (arith, no)

asks_it : (n : ℕ) (chosen : List EntryData) (env : Env) → n ≡ 1 → AnyHas chosen 0 (state 0) → IsUnionOf n chosen env → AsksAtLeast AsStrongAs env asks_q0
asks_it n chosen env one any union zero a m =
    (state 0, ((union.union 0 (state 0) (omega (arith, one))).1 any, subst (λ (t : TypeTree). AsStrongAs (state 0) t) (sym (only (state 0) a m)) same_state))
asks_it n chosen env one any union (suc j) a m = absurd (none_in a m)

-- at each call with what the rule was given, the rule's own parameter is asked for q0, and at `F c` there is nothing to choose
blocked : (s : SiteData) (of : PointData) → s.given ≡ 0 → slice_get handing.points.points s.point ≡ Some of → 0 < length of.args → IsBlocked handing entries pairs s asks_q0
blocked s of given at some d at_d places chosen are env union =
    by (call_case s.point d at_d (subst (λ (k : PointData). 0 < length k.args) (same_Some of d (sym at ∙ at_d)) some))
  where
    found : (u : ℕ) → d.args ≡ u ∷ [] → First u chosen
    found u e =
        first (subst (λ g. WeaklyChosen AsStrongAs handing entries 0 (u ∷ []) (sets_for asks_q0 g (u ∷ [])) places chosen) given
        (subst (λ (us : List ℕ). WeaklyChosen AsStrongAs handing entries 0 us (sets_for asks_q0 s.given us) places chosen) e are))

    one : (rule : ℕ) → d.rule ≡ rule → params_of handing rule ≡ 1 → params_of handing d.rule ≡ 1
    one rule e n = ap (λ k. params_of handing k) e ∙ n

    by : CallCase d → IsVoid handing entries pairs d.rule env
    by (calls_with_c e) = absurd (first_not_c chosen (found 1 e))
    by (calls_with_x r e) =
        inl (of_f, (here of_f (of_g ∷ []), sym r, asks_it (params_of handing d.rule) chosen env (one 1 r refl) (first_asks 3 chosen (found 3 e)) union))
    by (calls_with_y r e) =
        inl (of_g, (later of_f of_g (of_g ∷ []) (here of_g []), sym r, asks_it (params_of handing d.rule) chosen env (one 2 r refl) (first_asks 5 chosen (found 5 e)) union))

each_set : (j : ℕ) → IsSet (set_at asks_q0 j)
each_set zero = one_set (state 0)
each_set (suc j) = no_set

type_asked : (j : ℕ) (a : TypeTree) → Has asks_q0 j a → a ≡ state 0
type_asked zero a m = only (state 0) a m
type_asked (suc j) a m = absurd (none_in a m)

each_type : (j : ℕ) (a : TypeTree) → Has asks_q0 j a → IsType 1 a
each_type j a m = subst (λ (t : TypeTree). IsType 1 t) (sym (type_asked j a m)) (omega arith, refl)

in_shape : (rule : ℕ) → rule < 3 → params_of handing rule ≡ 1 → IsVoidShape handing (record { rule = rule; env = asks_q0 })
in_shape rule lt one = record { rule = lt; env = record { long = sym one; sets = each_set }; types = each_type }

-- a chain of a nonterminal with a parameter begins with a site
by_chain : (v : VoidData) → params_of handing v.rule ≡ 1 → v.env ≡ asks_q0 → (sites : List SiteData) → IsChain handing v.rule sites → (s : SiteData) × (Contains sites s × IsBlocked handing entries pairs s v.env)
by_chain v one asks [] e = absurd (omega (arith, e, one))
by_chain v one asks (s ∷ sites) (given, (of, (site, rest))) = (s, (here s sites, subst (λ (k : Env). IsBlocked handing entries pairs s k) (sym asks) (blocked s of given site.at site.some)))

pub circle : IsVoidList handing entries pairs
circle v m = elim (uncons of_f v (of_g ∷ []) m) [
  | inl is ↦ whole v (ap (λ (k : VoidData). params_of handing k.rule) is) (ap (λ (k : VoidData). k.env) is) (subst (λ (k : VoidData). IsVoidShape handing k) (sym is) (in_shape 1 (omega arith) refl))
  | inr there ↦
      let is = only of_g v there in
      whole v (ap (λ (k : VoidData). params_of handing k.rule) is) (ap (λ (k : VoidData). k.env) is) (subst (λ (k : VoidData). IsVoidShape handing k) (sym is) (in_shape 2 (omega arith) refl))
]
  where
    whole : (v : VoidData) → params_of handing v.rule ≡ 1 → v.env ≡ asks_q0 → IsVoidShape handing v → IsVoidPair handing entries pairs v
    whole v one asks shape = (shape, by_chain v one asks)

x_in_shape : InShape handing at_x
x_in_shape = record {
  of = record { rule = 1; head = Var 0; args = [] };
  at = refl;
  env = record { long = refl; sets = each_set };
  types = each_type;
  ty = (omega arith, refl);
}

y_in_shape : InShape handing at_y
y_in_shape = record {
  of = record { rule = 2; head = Var 0; args = [] };
  at = refl;
  env = record { long = refl; sets = each_set };
  types = each_type;
  ty = (omega arith, refl);
}

-- the calls by F and by G
abbrev call_g : SiteData
call_g = record { point = 2; given = 0 }

abbrev at_call_g : PointData
at_call_g = record { rule = 1; head = Nt 2; args = 3 ∷ [] }

call_g_is_site : IsSite handing 2 call_g at_call_g
call_g_is_site = record { at = refl; base = (refl, refl); some = omega arith }

abbrev call_f : SiteData
call_f = record { point = 4; given = 0 }

abbrev at_call_f : PointData
at_call_f = record { rule = 2; head = Nt 1; args = 5 ∷ [] }

call_f_is_site : IsSite handing 1 call_f at_call_f
call_f_is_site = record { at = refl; base = (refl, refl); some = omega arith }

-- F hands x on to G, and x may be rejected in q0
not_missed : Misses handing entries call_g asks_q0 → ⊥
not_missed m =
    let same : at_call_g ≡ m.gives.of = same_Some at_call_g m.gives.of m.gives.at in
    let there = one_place 3 m.gives.place m.u (subst (λ (d : PointData). slice_get d.args m.gives.place ≡ Some m.u) (sym same) m.gives.argument) in
    m.lacks (0, at_x, (record { at = refl; shape = x_in_shape }, there.1, subst (λ (t : TypeTree). AsStrongAs (state 0) t) (sym (type_asked m.j m.t m.asked)) same_state))

pub not_alone : IsVoidList handing entries (of_f ∷ []) → ⊥
not_alone list =
    let b = (list of_f (here of_f [])).1 (call_f ∷ []) (refl, (at_call_f, (call_f_is_site, refl))) in
    let here_blocked = subst (λ (s : SiteData). IsBlocked handing entries (of_f ∷ []) s asks_q0) (only call_f b.0 b.1.0) b.1.1 in
    let chosen : WeaklyChosen AsStrongAs handing entries 0 (5 ∷ []) asks_q0 ((0, 1) ∷ []) (at_y ∷ []) =
    choose (record { at = refl; shape = y_in_shape }) refl same_state (next_argument done) in
    elim (here_blocked at_call_f refl ((0, 1) ∷ []) (at_y ∷ []) chosen asks_q0 union) [
      | inl k ↦ let is : k.0 ≡ of_f = only of_f k.0 k.1.0 in let no : 1 ≡ 2 = sym (ap (λ (v : VoidData). v.rule) is) ∙ k.1.1 in omega (arith, no)
      | inr missed ↦
          let k = missed (call_g ∷ []) (refl, (at_call_g, (call_g_is_site, refl))) in
          not_missed (subst (λ (s : SiteData). Misses handing entries s asks_q0) (only call_g k.0 k.1.0) k.1.1)
    ]
  where
    union : IsUnionOf 1 (at_y ∷ []) asks_q0
    union = record {
      is_env = record { long = refl; sets = each_set };
      union = λ j a lt. (λ h. inl h, λ any. elim any [ inl h ↦ h | inr nowhere ↦ absurd nowhere ]);
    }
