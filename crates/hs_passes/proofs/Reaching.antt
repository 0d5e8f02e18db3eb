-- Rounds of reaching rules come to an end.
use Rattle.std.proofs.Common.{◌≡◌, refl, sym, ◌∙◌, ap, subst, ℕ, zero, suc, ◌+◌, ◌<◌, ◌≤◌, Bool, true, false, cond, List, [], ◌∷◌, length, slice_get, Some, ◌⊎◌, inl, inr, arith}
use Rattle.std.specs.Prelude.{◌||◌, ◌&&◌, nat_le}
use Rattle.std.proofs.lemmas.Bool.{or_left, or_right, eqb-true, leb-true, leb-false, and_parts, and_from, or_cases}
use Rattle.std.proofs.lemmas.Option.{slice_get_within, get_or_from_slice_get}
use Rattle.std.specs.Cmp.{both_ways}
use Rattle.hs_scheme.specs.declared.term.Rule.{Rule}
use Rattle.hs_scheme.specs.Scheme.{AreRules, TermInRange}
use Rattle.hs_passes.specs.Occurrences.{mentions}
use Rattle.hs_passes.specs.Selection.{place}
use Rattle.hs_passes.specs.Reachable.{IsReachable, from_start, from_body, mentioned_by, reached, is_reachable}
use Rattle.hs_passes.proofs.Choosing.{place-le, place-lt}
use Rattle.hs_passes.proofs.Renaming.{mention_below}

-- a rule of the set in whose body g occurs
record Mentioned (g : ℕ) (set : ℕ → Bool) (rules : List Rule) : Type 0 where
  pub by : ℕ
  pub rule : Rule
  pub inside : set by ≡ true
  pub at : slice_get rules by ≡ Some rule
  pub occurs : mentions g rule.body ≡ true

mentioned_rule : (g : ℕ) (set : ℕ → Bool) (rules : List Rule) → mentioned_by g set rules ≡ true → Mentioned g set rules
mentioned_rule g set [] e = absurd (cc)
mentioned_rule g set (r ∷ rules) e = elim (or_cases (set 0 && mentions g r.body) (mentioned_by g (λ f. set (suc f)) rules) e) [
  | inl p ↦ let q = and_parts (set 0) (mentions g r.body) p in record { by = 0; rule = r; inside = q.0; at = refl; occurs = q.1 }
  | inr p ↦ let m = mentioned_rule g (λ f. set (suc f)) rules p in record { by = suc m.by; rule = m.rule; inside = m.inside; at = m.at; occurs = m.occurs }
]

is_mentioned : (g : ℕ) (set : ℕ → Bool) (rules : List Rule) (f : ℕ) (r : Rule) → set f ≡ true → slice_get rules f ≡ Some r → mentions g r.body ≡ true → mentioned_by g set rules ≡ true
is_mentioned g set [] f r inside at occurs = absurd (cc)
is_mentioned g set (s ∷ rules) zero r inside at occurs =
    let e : s ≡ r = (cc) in
    or_left (set 0 && mentions g s.body) (mentioned_by g (λ f. set (suc f)) rules) (and_from (set 0) (mentions g s.body) inside (ap (λ (k : Rule). mentions g k.body) e ∙ occurs))
is_mentioned g set (s ∷ rules) (suc f) r inside at occurs =
    or_right (set 0 && mentions g s.body) (mentioned_by g (λ f. set (suc f)) rules) (is_mentioned g (λ f. set (suc f)) rules f r inside at occurs)

mentioned-same : (g : ℕ) (set other : ℕ → Bool) (rules : List Rule) → ((f : ℕ) → f < length rules → set f ≡ other f) → mentioned_by g set rules ≡ mentioned_by g other rules
mentioned-same g set other [] same = refl
mentioned-same g set other (r ∷ rules) same =
    let e = mentioned-same g (λ f. set (suc f)) (λ f. other (suc f)) rules (λ f lt. same (suc f) (omega arith)) in
    λ i. (same 0 (omega arith) i && mentions g r.body) || e i

grown_le : (n : ℕ) (set other : ℕ → Bool) → ((f : ℕ) → set f ≡ true → other f ≡ true) → place set n ≤ place other n
grown_le zero set other within = omega arith
grown_le (suc n) set other within = by (set 0) (other 0) (within 0) (grown_le n (λ f. set (suc f)) (λ f. other (suc f)) (λ f. within (suc f)))
  where
    by : (a b : Bool) → (a ≡ true → b ≡ true) → place (λ f. set (suc f)) n ≤ place (λ f. other (suc f)) n
        → cond a 1 0 + place (λ f. set (suc f)) n ≤ cond b 1 0 + place (λ f. other (suc f)) n
    by true true h le = omega arith
    by true false h le = let e : false ≡ true = h refl in absurd (cc)
    by false true h le = omega arith
    by false false h le = omega arith

same_from_0 : (n : ℕ) (set other : ℕ → Bool) → set 0 ≡ other 0 → ((f : ℕ) → f < n → set (suc f) ≡ other (suc f)) → (f : ℕ) → f < suc n → set f ≡ other f
same_from_0 n set other first rest zero lt = first
same_from_0 n set other first rest (suc f) lt = rest f (omega arith)

-- Of a set and one that has it within, or_cases and_parts are equal below n, or the other has more.
grown : (n : ℕ) (set other : ℕ → Bool) → ((f : ℕ) → set f ≡ true → other f ≡ true) → ((f : ℕ) → f < n → set f ≡ other f) ⊎ (place set n < place other n)
grown zero set other within = inl (λ f lt. absurd (omega arith))
grown (suc n) set other within =
    by (set 0) (other 0) refl refl (within 0) (grown n (λ f. set (suc f)) (λ f. other (suc f)) (λ f. within (suc f))) (grown_le n (λ f. set (suc f)) (λ f. other (suc f)) (λ f. within (suc f)))
  where
    count : ℕ → ℕ → Type 0
    count a b = a + place (λ f. set (suc f)) n < b + place (λ f. other (suc f)) n

    by : (a b : Bool) → set 0 ≡ a → other 0 ≡ b → (set 0 ≡ true → other 0 ≡ true) → ((f : ℕ) → f < n → set (suc f) ≡ other (suc f)) ⊎ (place (λ f. set (suc f)) n < place (λ f. other (suc f)) n)
        → place (λ f. set (suc f)) n ≤ place (λ f. other (suc f)) n
        → ((f : ℕ) → f < suc n → set f ≡ other f) ⊎ (cond (set 0) 1 0 + place (λ f. set (suc f)) n < cond (other 0) 1 0 + place (λ f. other (suc f)) n)
    by true false p q h g le = let e = h p in absurd (cc)
    by false true p q h g le = inr (rw (p, q) (omega arith))
    by true true p q h (inl same) le = inl (same_from_0 n set other (p ∙ sym q) same)
    by true true p q h (inr more) le = inr (rw (p, q) (omega arith))
    by false false p q h (inl same) le = inl (same_from_0 n set other (p ∙ sym q) same)
    by false false p q h (inr more) le = inr (rw (p, q) (omega arith))

pub either_le : (m n : ℕ) → m ≤ suc n → (m ≡ suc n) ⊎ (m ≤ n)
either_le m n le = by (nat_le m n) refl
  where
    by : (b : Bool) → nat_le m n ≡ b → (m ≡ suc n) ⊎ (m ≤ n)
    by true e = inr (leb-true m n e)
    by false e = let lt : n < m = leb-false m n e in inl (omega arith)

module _ (rules : List Rule) where
  is_reached : (n g : ℕ) → reached rules n g ≡ true → IsReachable rules g
  is_reached zero g e = let is : g ≡ 0 = eqb-true g 0 e in subst (IsReachable rules) (sym is) from_start
  is_reached (suc n) g e = elim (or_cases (reached rules n g) (mentioned_by g (reached rules n) rules) e) [
    | inl p ↦ is_reached n g p
    | inr p ↦ let m = mentioned_rule g (reached rules n) rules p in from_body m.by g m.rule (is_reached n m.by m.inside) m.at m.occurs
  ]

  abbrev count : ℕ
  count = length rules

  more_reached : (n f : ℕ) → reached rules n f ≡ true → reached rules (suc n) f ≡ true
  more_reached n f e = or_left (reached rules n f) (mentioned_by f (reached rules n) rules) e

  start_reached : (n : ℕ) → reached rules n 0 ≡ true
  start_reached zero = refl
  start_reached (suc n) = more_reached n 0 (start_reached n)

  abbrev Stable : ℕ → Type 0
  Stable m = (f : ℕ) → f < count → reached rules m f ≡ reached rules (suc m) f

  -- until a round adds nothing, there is one more with each
  rounds : 0 < count → (n : ℕ) → ((m : ℕ) × (m ≤ n) × Stable m) ⊎ (n < place (reached rules n) count)
  rounds some zero = inr (place-lt (reached rules 0) 0 count refl some)
  rounds some (suc n) = elim (rounds some n) [
    | inl (m, le, stable) ↦ inl (m, omega (arith, le), stable)
    | inr more ↦ elim (grown count (reached rules n) (reached rules (suc n)) (more_reached n)) [
      | inl same ↦ inl (n, omega arith, same)
      | inr grows ↦ inr (omega (arith, more, grows))
    ]
  ]

  stays : (m : ℕ) → Stable m → (n : ℕ) → m ≤ n → (f : ℕ) → f < count → reached rules n f ≡ reached rules m f
  stays m stable zero le f lt = let e : m ≡ 0 = omega arith in ap (λ k. reached rules k f) (sym e)
  stays m stable (suc n) le f lt = elim (either_le m n le) [
    | inl e ↦ ap (λ k. reached rules k f) (sym e)
    | inr below ↦
        let same = stays m stable n below in
        (λ i. same f lt i || mentioned-same f (reached rules n) (reached rules m) rules same i) ∙ sym (stable f lt)
  ]

  last : 0 < count → (f : ℕ) → f < count → reached rules count f ≡ reached rules (suc count) f
  last some = elim (rounds some count) [
    | inl (m, le, stable) ↦ λ f lt. stays m stable count le f lt ∙ sym (stays m stable (suc count) (omega (arith, le)) f lt)
    | inr more ↦ absurd (omega (arith, more, place-le (reached rules count) count))
  ]

  module _ (terminals : ℕ) (are : AreRules rules terminals) where
    some_rule : 0 < count
    some_rule = slice_get_within rules 0 are.start.0 are.start.1.0

    pub mention_in_range : (f g : ℕ) (r : Rule) → slice_get rules f ≡ Some r → mentions g r.body ≡ true → g < count
    mention_in_range f g r at occurs =
        let in_range = subst (λ (k : Rule). TermInRange k.params count terminals k.body) (get_or_from_slice_get rules f r r at) (are.bodies f r (slice_get_within rules f r at)) in
        mention_below g r.params count terminals r.body in_range occurs

    pub reachable_reached : (g : ℕ) → IsReachable rules g → is_reachable rules g ≡ true
    unfolding is_reachable
    reachable_reached _ from_start = start_reached count
    reachable_reached _ (from_body f g r before at occurs) =
        last some_rule g (mention_in_range f g r at occurs)
        ∙ or_right (reached rules count g) (mentioned_by g (reached rules count) rules) (is_mentioned g (reached rules count) rules f r (reachable_reached f before) at occurs)

    pub reached_reachable : (g : ℕ) → is_reachable rules g ≡ true → IsReachable rules g
    unfolding is_reachable
    reached_reachable g e = is_reached count g e

    -- a set that is closed, and has nothing but what is reachable, has just that
    pub decides : (set : ℕ → Bool) → ((f : ℕ) → set f ≡ true → IsReachable rules f) → set 0 ≡ true
        → ((f g : ℕ) (r : Rule) → set f ≡ true → slice_get rules f ≡ Some r → mentions g r.body ≡ true → set g ≡ true)
        → (f : ℕ) → set f ≡ is_reachable rules f
    decides set sound first closed f =
        both_ways (set f) (is_reachable rules f) (λ e. reachable_reached f (sound f e)) (λ e. go f (reached_reachable f e))
      where
        go : (g : ℕ) → IsReachable rules g → set g ≡ true
        go _ from_start = first
        go _ (from_body f g r before at occurs) = closed f g r (go f before) at occurs
