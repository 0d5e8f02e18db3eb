-- An entry has one support at most with the same list of places.
use Rattle.std.proofs.Common.{◌≡◌, refl, sym, ◌∙◌, ap, subst, ℕ, zero, suc, ◌+◌, ◌-◌, ◌<◌, ◌≤◌, List, [], ◌∷◌, ◌++◌, length, map, drop, replicate, set, slice_get, Option, Some, None, arith, Contains, inl, inr}
use Rattle.std.proofs.lemmas.Bool.{cases_lt}
use Rattle.std.proofs.lemmas.Option.{same_Some, get_or_from_slice_get}
use Rattle.hs_scheme.specs.declared.term.Head.{Head}
use Rattle.hs_scheme.specs.declared.term.Head.TheVariants.{Var, Nt, Tm}
use Rattle.hs_scheme.specs.flow.Points.{PointData, IsPoints, IsArgument}
use Rattle.hs_scheme.specs.Problem.{ProblemData}
use Rattle.hs_scheme.specs.acceptance.Automaton.{next}
use Rattle.hs_scheme.proofs.Lists.{none_in, here, later, uncons}
use Rattle.hs_table.specs.declared.support.HeadBy.{HeadBy}
use Rattle.hs_table.specs.declared.support.HeadBy.TheVariants.{Terminal, Rule, Param}
use Rattle.hs_table.specs.Types.{TypeTree, state, arrows}
use Rattle.hs_table.specs.Entries.{Env, EntryData, Has, set_at}
use Rattle.hs_table.specs.Follows.{rank_of, IsHeadType, IsTerminalType, FromBody, FromFlow, Chosen, done, next_argument, choose, Support, FollowsBy, head_premise, premises}
use Rattle.hs_table_laws.proofs.Places.{within_from}
use Rattle.hs_table_laws.proofs.Arrows.{label_of, arrow_same, arrows_same, state_no_arrow, has_within, one_long, one_has}
use Rattle.hs_rules.proofs.ArrowLemmas.{arrows_long, arrows_first, takes_has}

abbrev places : List (ℕ × ℕ) → List ℕ
places args = map (λ (a : ℕ × ℕ). a.1) args

first_is : {X : Type 0} (x y : X) (xs ys : List X) → x ∷ xs ≡ y ∷ ys → (x ≡ y) × (xs ≡ ys)
first_is {X = X} x y xs ys e = (same_Some x y (ap (λ (zs : List X). slice_get zs 0) e), ap (λ (zs : List X). drop 1 zs) e)

-- the entry at a place is one at an argument
record Picks (E : List EntryData) (us : List ℕ) (j x : ℕ) : Type 0 where
  entry : EntryData
  at : slice_get E x ≡ Some entry
  point : slice_get us j ≡ Some entry.point

more_has : (b : TypeTree) (s : List TypeTree) (ss : Env) (j : ℕ) (a : TypeTree) → Has (s ∷ ss) j a → Has ((b ∷ s) ∷ ss) j a
more_has b s ss zero a h = later b a s h
more_has b s ss (suc j) a h = h

module _ {p : ProblemData} {E : List EntryData} where
  as_long : {i : ℕ} {us : List ℕ} {ss : Env} {args : List (ℕ × ℕ)} {es : List EntryData} → Chosen p E i us ss args es → length ss ≡ length us
  as_long done = refl
  as_long (next_argument c) = ap suc (as_long c)
  as_long (choose at point ty c) = as_long c

  -- for the same sets the places tell all
  choice_same : {i : ℕ} {us : List ℕ} {ss : Env} {args others : List (ℕ × ℕ)} {es fs : List EntryData} → Chosen p E i us ss args es → Chosen p E i us ss others fs → places args ≡ places others → args ≡ others
  choice_same done done e = refl
  choice_same (next_argument c) (next_argument d) e = choice_same c d e
  choice_same (choose {i = i} {place = m} {args = args} at point ty c) (choose {place = n} {args = others} at' point' ty' d) e =
      let f = first_is m n (places args) (places others) e in
      let g = choice_same c d f.1 in
      λ j. (i, f.0 j) ∷ g j

  -- a type of a set has a place among the premises
  place_for : {i : ℕ} {us : List ℕ} {ss : Env} {args : List (ℕ × ℕ)} {es : List EntryData} → Chosen p E i us ss args es → (j : ℕ) (a : TypeTree) → Has ss j a → (x : ℕ) × (Contains (places args) x × Picks E us j x)
  place_for done j a h = absurd (none_in a h)
  place_for (next_argument c) zero a h = absurd (none_in a h)
  place_for (next_argument c) (suc j) a h = let r = place_for c j a h in (r.0, (r.1.0, record { entry = r.1.1.entry; at = r.1.1.at; point = r.1.1.point }))
  place_for (choose {place = m} {a = b} {s = s} {args = args} {e = x} at point ty c) zero a h = elim (uncons b a s h) [
    | inl own ↦ (m, (here m (places args), record { entry = x; at = at.at; point = ap (λ (u : ℕ). Some u) (sym point) }))
    | inr there ↦ let r = place_for c zero a there in (r.0, (later m r.0 (places args) r.1.0, r.1.1))
  ]
  place_for (choose {place = m} {args = args} at point ty c) (suc j) a h = let r = place_for c (suc j) a h in (r.0, (later m r.0 (places args) r.1.0, r.1.1))

  -- and a place among the premises is there for a type of a set
  set_for : {i : ℕ} {us : List ℕ} {ss : Env} {args : List (ℕ × ℕ)} {es : List EntryData} → Chosen p E i us ss args es → (x : ℕ) → Contains (places args) x → (j : ℕ) × ((a : TypeTree) × (Has ss j a × Picks E us j x))
  set_for done x c = absurd (none_in x c)
  set_for (next_argument k) x c = let r = set_for k x c in (suc r.0, (r.1.0, (r.1.1.0, record { entry = r.1.1.1.entry; at = r.1.1.1.at; point = r.1.1.1.point })))
  set_for (choose {place = m} {a = b} {s = s} {ss = ss} {args = args} {e = e} at point ty k) x c = elim (uncons m x (places args) c) [
    | inl own ↦ (0, (b, (here b s, record { entry = e; at = ap (λ n. slice_get E n) own ∙ at.at; point = ap (λ (u : ℕ). Some u) (sym point) })))
    | inr there ↦ let r = set_for k x there in (r.0, (r.1.0, (more_has b s ss r.0 r.1.0 r.1.1.0, r.1.1.1)))
  ]

-- types with the same states at their ends
state_same : (q r : ℕ) → state q ≡ state r → q ≡ r
state_same q r e = same_Some q r (ap label_of e)

ends_same : (ss rs : Env) (q r : ℕ) → arrows ss (state q) ≡ arrows rs (state r) → (ss ≡ rs) × (q ≡ r)
ends_same [] [] q r e = (refl, state_same q r e)
ends_same [] (s ∷ rs) q r e = absurd (state_no_arrow q s (arrows rs (state r)) e)
ends_same (s ∷ ss) [] q r e = absurd (state_no_arrow r s (arrows ss (state q)) (sym e))
ends_same (s ∷ ss) (t ∷ rs) q r e =
    let a = arrow_same s t (arrows ss (state q)) (arrows rs (state r)) e in
    let b = ends_same ss rs q r a.1 in
    (λ i. a.0 i ∷ b.0 i, b.1)

-- what is left of a type behind so many sets
left_of : (sets full : Env) (t : TypeTree) (q : ℕ) → arrows sets t ≡ arrows full (state q) → arrows (drop (length sets) full) (state q) ≡ t
left_of sets full t q e = (arrows_first (length sets) full sets (state q) t (arrows_long full sets q t (sym e)) refl (sym e)).1

set_behind : (n : ℕ) (ss : Env) (j : ℕ) → set_at (drop n ss) j ≡ set_at ss (n + j)
set_behind zero ss j = let e : j ≡ 0 + j = omega arith in ap (λ (k : ℕ). set_at ss k) e
set_behind (suc n) [] j = refl
set_behind (suc n) (s ∷ ss) j = set_behind n ss j ∙ (let e : suc (n + j) ≡ suc n + j = omega arith in ap (λ (k : ℕ). set_at (s ∷ ss) k) e)

-- the child by which a terminal is rejected
module _ (p : ProblemData) (E : List EntryData) (point : ℕ) (us : List ℕ) (once : (u i j : ℕ) → slice_get us i ≡ Some u → slice_get us j ≡ Some u → i ≡ j) (n : ℕ) (t : TypeTree) where
  record ByChild (q k r : ℕ) (args : List (ℕ × ℕ)) : Type 0 where
    sets : Env
    es : List EntryData
    within : k < n
    is : arrows sets t ≡ arrows (set (replicate n []) k (state r ∷ [])) (state q)
    are : Chosen p E 0 us sets args es

  module _ (q k r q' k' r' : ℕ) (args args' : List (ℕ × ℕ)) (a : ByChild q k r args) (b : ByChild q' k' r' args') (same : places args ≡ places args') where
    abbrev full : Env
    full = set (replicate n []) k (state r ∷ [])

    abbrev full' : Env
    full' = set (replicate n []) k' (state r' ∷ [])

    -- one that has an argument is that of the other's, too
    by_argument : k < length a.sets → k ≡ k'
    by_argument lt =
        let has = takes_has a.sets t k (state r) (record { sets = full; rest = state q; is = a.is; has = (one_has n k k (state r) (state r) a.within).1 (refl, refl) }) lt in
        let x = place_for a.are k (state r) has in
        let y = set_for b.are x.0 (subst (λ (ps : List ℕ). Contains ps x.0) same x.1.0) in
        let entry_is = same_Some x.1.1.entry y.1.1.1.entry (sym x.1.1.at ∙ y.1.1.1.at) in
        let k_is : k ≡ y.0 = once x.1.1.entry.point k y.0 x.1.1.point (y.1.1.1.point ∙ ap (λ (e : EntryData). let u : Option ℕ = Some e.point in u) (sym entry_is)) in
        let below = has_within b.sets y.0 y.1.0 y.1.1.0 in
        let more = arrows_long full' b.sets q' t (sym b.is) in
        let many = one_long n k' (state r' ∷ []) in
        let took = takes_has full' (state q') y.0 y.1.0 (record { sets = b.sets; rest = t; is = sym b.is; has = y.1.1.0 }) (omega (arith, below, more)) in
        k_is ∙ ((one_has n k' y.0 (state r') y.1.0 (omega (arith, below, more, many))).0 took).0

    -- else the type tells it
    by_type : length a.sets ≡ length b.sets → length a.sets ≤ k → k ≡ k'
    by_type long le =
        let mine = left_of a.sets full t q a.is in
        let other = ap (λ (m : ℕ). arrows (drop m full') (state q')) long ∙ left_of b.sets full' t q' b.is in
        let rest = (ends_same (drop (length a.sets) full) (drop (length a.sets) full') q q' (mine ∙ sym other)).0 in
        let m = length a.sets in
        let z : m + (k - m) ≡ k = omega (arith, le) in
        let has = (one_has n k k (state r) (state r) a.within).1 (refl, refl) in
        let had : Has (drop m full) (k - m) (state r) = subst (λ (s : List TypeTree). Contains s (state r)) (sym (set_behind m full (k - m) ∙ ap (set_at full) z)) has in
        let took : Has full' k (state r) = subst (λ (s : List TypeTree). Contains s (state r)) (ap (λ (ss : Env). set_at ss (k - m)) rest ∙ (set_behind m full' (k - m) ∙ ap (set_at full') z)) had in
        ((one_has n k' k (state r') (state r) a.within).0 took).0

    child_same : length a.sets ≡ length b.sets → k ≡ k'
    child_same long = elim (cases_lt k (length a.sets)) [
      | inl lt ↦ by_argument lt
      | inr le ↦ by_type long le
    ]

-- two supports of an entry with the same premises
module _ (p : ProblemData) (points : IsPoints p.points) (E : List EntryData) (s r : Support) (e : EntryData) (h : FollowsBy p E s e) (k : FollowsBy p E r e) (same : premises s ≡ premises r) where
  of_same : k.of ≡ h.of
  of_same = same_Some k.of h.of (sym k.at ∙ h.at)

  once : (u i j : ℕ) → slice_get h.of.args i ≡ Some u → slice_get h.of.args j ≡ Some u → i ≡ j
  once u i j at other =
      let of_is = get_or_from_slice_get p.points.points e.point h.of (record { rule = 0; head = Tm 0; args = [] }) h.at in
      let one : IsArgument p.points e.point i u = ap (λ (d : PointData). slice_get d.args i) of_is ∙ at in
      let two : IsArgument p.points e.point j u = ap (λ (d : PointData). slice_get d.args j) of_is ∙ other in
      (points.once u e.point i e.point j one two).1

  k_head : IsHeadType p E h.of.rule h.of.head r.head (arrows k.sets e.ty)
  k_head = subst (λ (d : PointData). IsHeadType p E d.rule d.head r.head (arrows k.sets e.ty)) of_same k.head

  k_are : Chosen p E 0 h.of.args k.sets r.args k.chosen
  k_are = subst (λ (d : PointData). Chosen p E 0 d.args k.sets r.args k.chosen) of_same k.are

  long : length h.sets ≡ length k.sets
  long = as_long h.are ∙ sym (as_long k_are)

  -- the same head with the same types
  by_head : s.head ≡ r.head → arrows h.sets e.ty ≡ arrows k.sets e.ty → places s.args ≡ places r.args → s ≡ r
  by_head head_is types_are args_are =
      let sets_are = (arrows_same h.sets k.sets e.ty e.ty long types_are).0 in
      let args_same = choice_same h.are (subst (λ (ss : Env). Chosen p E 0 h.of.args ss r.args k.chosen) (sym sets_are) k_are) args_are in
      λ i. record { head = head_is i; args = args_same i }

  bare : head_premise s.head ≡ [] → head_premise r.head ≡ [] → places s.args ≡ places r.args
  bare x y = sym (ap (λ (ps : List ℕ). ps ++ places s.args) x) ∙ (same ∙ ap (λ (ps : List ℕ). ps ++ places r.args) y)

  behind : (m n : ℕ) → head_premise s.head ≡ m ∷ [] → head_premise r.head ≡ n ∷ [] → (m ≡ n) × (places s.args ≡ places r.args)
  behind m n x y = first_is m n (places s.args) (places r.args) (sym (ap (λ (ps : List ℕ). ps ++ places s.args) x) ∙ (same ∙ ap (λ (ps : List ℕ). ps ++ places r.args) y))

  abbrev EndsIn : TypeTree → ℕ → Type 0
  EndsIn ty q = (full : Env) × (ty ≡ arrows full (state q))

  ends : (a q : ℕ) (c : Option ℕ) (ty : TypeTree) → IsTerminalType p a q c ty → EndsIn ty q
  ends a q None ty x = (replicate (rank_of p a) [], x.is)
  ends a q (Some c) ty x = (set (replicate (length x.qs) []) x.place (state x.r ∷ []), x.is)

  states_same : (q q' : ℕ) → EndsIn (arrows h.sets e.ty) q → EndsIn (arrows k.sets e.ty) q' → q ≡ q'
  states_same q q' (one, x) (two, y) =
      (ends_same (drop (length h.sets) one) (drop (length k.sets) two) q q' (left_of h.sets one e.ty q x ∙ sym (left_of k.sets two e.ty q' y))).1

  by_terminal : (a q q' : ℕ) (c c' : Option ℕ) → s.head ≡ Terminal q c → r.head ≡ Terminal q' c' → q ≡ q' → IsTerminalType p a q c (arrows h.sets e.ty) → IsTerminalType p a q' c' (arrows k.sets e.ty) → s ≡ r
  by_terminal a q q' None None is is' q_is x y =
      by_head (is ∙ (ap (λ (m : ℕ). Terminal m None) q_is ∙ sym is')) (x.is ∙ (ap (λ (m : ℕ). arrows (replicate (rank_of p a) []) (state m)) q_is ∙ sym y.is)) (bare (ap head_premise is) (ap head_premise is'))
  by_terminal a q q' None (Some c') is is' q_is x y = absurd (let f : None ≡ Some y.qs = sym x.moves ∙ (ap (λ (m : ℕ). next p.sorted.automaton.transitions m a) q_is ∙ y.moves) in cc)
  by_terminal a q q' (Some c) None is is' q_is x y = absurd (let f : Some x.qs ≡ None = sym x.moves ∙ (ap (λ (m : ℕ). next p.sorted.automaton.transitions m a) q_is ∙ y.moves) in cc)
  by_terminal a q q' (Some c) (Some c') is is' q_is x y =
      let qs_is : x.qs ≡ y.qs = same_Some x.qs y.qs (sym x.moves ∙ (ap (λ (m : ℕ). next p.sorted.automaton.transitions m a) q_is ∙ y.moves)) in
      let n = length x.qs in
      let args_are = bare (ap head_premise is) (ap head_premise is') in
      let one : ByChild p E e.point h.of.args once n e.ty q x.place x.r s.args = record { sets = h.sets; es = h.chosen; within = within_from x.qs x.place x.r x.at; is = x.is; are = h.are } in
      let two : ByChild p E e.point h.of.args once n e.ty q' y.place y.r r.args = record {
        sets = k.sets;
        es = k.chosen;
        within = omega (arith, within_from y.qs y.place y.r y.at, ap (λ (xs : List ℕ). length xs) qs_is);
        is = y.is ∙ ap (λ (xs : List ℕ). arrows (set (replicate (length xs) []) y.place (state y.r ∷ [])) (state q')) (sym qs_is);
        are = k_are;
      } in
      let k_is = child_same p E e.point h.of.args once n e.ty q x.place x.r q' y.place y.r s.args r.args one two args_are long in
      let r_is = same_Some x.r y.r (sym x.at ∙ ((λ i. slice_get (qs_is i) (k_is i)) ∙ y.at)) in
      let c_is : c ≡ c' = omega (arith, x.counted, y.counted, k_is) in
      by_head (is ∙ ((λ i. Terminal (q_is i) (Some (c_is i))) ∙ sym is'))
      (x.is ∙ ((λ i. arrows (set (replicate (length (qs_is i)) []) (k_is i) (state (r_is i) ∷ [])) (state (q_is i))) ∙ sym y.is)) args_are

  by_body : (f m n : ℕ) → s.head ≡ Rule m → r.head ≡ Rule n → FromBody p E f m (arrows h.sets e.ty) → FromBody p E f n (arrows k.sets e.ty) → s ≡ r
  by_body f m n is is' x y =
      let b = behind m n (ap head_premise is) (ap head_premise is') in
      let entry_is = same_Some x.entry y.entry (sym x.holds.at ∙ (ap (λ (i : ℕ). slice_get E i) b.0 ∙ y.holds.at)) in
      let q_is = state_same x.q y.q (sym x.is_state ∙ (ap (λ (d : EntryData). d.ty) entry_is ∙ y.is_state)) in
      by_head (is ∙ (ap (λ (i : ℕ). Rule i) b.0 ∙ sym is')) (x.is ∙ ((λ i. arrows (entry_is i).env (state (q_is i))) ∙ sym y.is)) b.1

  by_flow : (rule v w m n : ℕ) (x' : ℕ) → s.head ≡ Param v m → r.head ≡ Param w n → v ≡ w → FromFlow p E rule x' m (arrows h.sets e.ty) → FromFlow p E rule x' n (arrows k.sets e.ty) → s ≡ r
  by_flow rule v w m n x' is is' v_is x y =
      let b = behind m n (ap head_premise is) (ap head_premise is') in
      let entry_is = same_Some x.entry y.entry (sym x.holds.at ∙ (ap (λ (i : ℕ). slice_get E i) b.0 ∙ y.holds.at)) in
      by_head (is ∙ ((λ i. Param (v_is i) (b.0 i)) ∙ sym is')) (x.is ∙ (ap (λ (d : EntryData). d.ty) entry_is ∙ sym y.is)) b.1

  by_heads : (head : Head) (b c : HeadBy) → s.head ≡ b → r.head ≡ c → IsHeadType p E h.of.rule head b (arrows h.sets e.ty) → IsHeadType p E h.of.rule head c (arrows k.sets e.ty) → s ≡ r
  by_heads (Tm a) (Terminal q x) (Terminal q' y) is is' t u = by_terminal a q q' x y is is' (states_same q q' (ends a q x (arrows h.sets e.ty) t.1) (ends a q' y (arrows k.sets e.ty) u.1)) t.1 u.1
  by_heads (Tm a) (Terminal q x) (Rule n) is is' t u = absurd u
  by_heads (Tm a) (Terminal q x) (Param w n) is is' t u = absurd u
  by_heads (Tm a) (Rule m) c is is' t u = absurd t
  by_heads (Tm a) (Param v m) c is is' t u = absurd t
  by_heads (Nt f) (Rule m) (Rule n) is is' t u = by_body f m n is is' t u
  by_heads (Nt f) (Rule m) (Terminal q x) is is' t u = absurd u
  by_heads (Nt f) (Rule m) (Param w n) is is' t u = absurd u
  by_heads (Nt f) (Terminal q x) c is is' t u = absurd t
  by_heads (Nt f) (Param v m) c is is' t u = absurd t
  by_heads (Var z) (Param v m) (Param w n) is is' t u = by_flow h.of.rule v w m n z is is' (t.0 ∙ sym u.0) t.1 u.1
  by_heads (Var z) (Param v m) (Terminal q x) is is' t u = absurd u
  by_heads (Var z) (Param v m) (Rule n) is is' t u = absurd u
  by_heads (Var z) (Terminal q x) c is is' t u = absurd t
  by_heads (Var z) (Rule m) c is is' t u = absurd t

  pub one_support : s ≡ r
  one_support = by_heads h.of.head s.head r.head refl refl h.head k_head
