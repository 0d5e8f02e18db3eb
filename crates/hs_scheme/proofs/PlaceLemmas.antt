-- Whose argument each point is, exactly.
use Rattle.std.proofs.Common.{◌≡◌, refl, sym, ◌∙◌, ap, subst, ℕ, zero, suc, ◌+◌, ◌≤◌, ◌⊎◌, inl, inr, List, [], ◌∷◌, ◌++◌, length, length-append, slice_get, Option, Some, None, arith}
use Rattle.std.proofs.lemmas.List.{get_or_past}
use Rattle.std.proofs.lemmas.Option.{get_or_from_slice_get, slice_get-get_or}
use Rattle.std.proofs.lemmas.Bool.{cases_lt}
use Rattle.hs_scheme.specs.declared.term.Head.{Head}
use Rattle.hs_scheme.specs.declared.term.Head.TheVariants.{Tm}
use Rattle.hs_scheme.specs.declared.term.Rule.{Rule}
use Rattle.hs_scheme.specs.declared.points.Argument.{Argument}
use Rattle.hs_scheme.specs.Tree.{Tree, Trees, node, none, more}
use Rattle.hs_scheme.specs.flow.Points.{PointData, PointsData, size, sizes, numbers, term_points, terms_points, rules_points, points_of, IsArgument, point_at}
use Rattle.hs_scheme.specs.flow.Rows.{ArePlacesOfArguments, term_places, terms_places, rules_places}
use Rattle.hs_scheme.proofs.PointLemmas.{length-term_points}

-- the item of number m, where the items are numbered from n, and P holds of it
abbrev At : {X : Type 0} → ℕ → List X → ℕ → (X → Type 0) → Type 0
At {X} n xs m P = (k : ℕ) × ((x : X) × ((m ≡ n + k) × ((slice_get xs k ≡ Some x) × P x)))

module _ {X : Type 0} (P : X → Type 0) where
  same_some : (x y : X) → Some x ≡ Some y → x ≡ y
  same_some x y e = (cc)

  at-cons : (n m : ℕ) (x : X) (xs : List X) → At n (x ∷ xs) m P → ((m ≡ n) × P x) ⊎ At (n + 1) xs m P
  at-cons n m x xs (zero, (y, (is, (there, holds)))) = inl (omega arith, subst P (sym (same_some x y there)) holds)
  at-cons n m x xs (suc k, (y, (is, (there, holds)))) = inr (k, (y, (omega arith, (there, holds))))

  at-tail : (n m : ℕ) (x : X) (xs : List X) → At (n + 1) xs m P → At n (x ∷ xs) m P
  at-tail n m x xs (k, (y, (is, (there, holds)))) = (suc k, (y, (omega arith, (there, holds))))

  at-append : (n m : ℕ) (xs ys : List X) → At n (xs ++ ys) m P → At n xs m P ⊎ At (n + length xs) ys m P
  at-append n m [] ys (k, (y, (is, (there, holds)))) = inr (k, (y, (omega arith, (there, holds))))
  at-append n m (x ∷ xs) ys h = elim (at-cons n m x (xs ++ ys) h) [
    | inl (is, holds) ↦ inl (0, (x, (omega arith, (refl, holds))))
    | inr later ↦ elim (at-append (n + 1) m xs ys later) [
      | inl front ↦ inl (at-tail n m x xs front)
      | inr (k, (y, (is, (there, holds)))) ↦ inr (k, (y, (omega arith, (there, holds))))
    ]
  ]

  at-left : (n m : ℕ) (xs ys : List X) → At n xs m P → At n (xs ++ ys) m P
  at-left n m [] ys (k, (y, (is, (there, holds)))) = absurd (cc)
  at-left n m (x ∷ xs) ys (zero, (y, (is, (there, holds)))) = (zero, (y, (is, (there, holds))))
  at-left n m (x ∷ xs) ys (suc k, (y, (is, (there, holds)))) = at-tail n m x (xs ++ ys) (at-left (n + 1) m xs ys (k, (y, (omega arith, (there, holds)))))

  at-right : (n m : ℕ) (xs ys : List X) → At (n + length xs) ys m P → At n (xs ++ ys) m P
  at-right n m [] ys (k, (y, (is, (there, holds)))) = (k, (y, (omega arith, (there, holds))))
  at-right n m (x ∷ xs) ys (k, (y, (is, (there, holds)))) = at-tail n m x (xs ++ ys) (at-right (n + 1) m xs ys (k, (y, (omega arith, (there, holds)))))

abbrev Has : ℕ → List PointData → ℕ → ℕ → ℕ → Type 0
Has n points q i a = At n points q (λ d. slice_get d.args i ≡ Some a)

abbrev Places : ℕ → List (Option Argument) → ℕ → ℕ → ℕ → Type 0
Places n places q i a = At n places a (λ p. p ≡ Some (record { point = q; place = i }))

-- in a term at n, in terms side by side from n on, and in rules, a is the argument of q at place i
abbrev mutual
  InTerm : ℕ → Tree Head → ℕ → ℕ → ℕ → Type 0
  InTerm n (node h ts) q i a = ((q ≡ n) × (slice_get (numbers (n + 1) ts) i ≡ Some a)) ⊎ InTerms (n + 1) ts q i a

  InTerms : ℕ → Trees Head → ℕ → ℕ → ℕ → Type 0
  InTerms n none q i a = ⊥
  InTerms n (more t ts) q i a = InTerm n t q i a ⊎ InTerms (n + size t) ts q i a

abbrev InRules : ℕ → List Rule → ℕ → ℕ → ℕ → Type 0
InRules n [] q i a = ⊥
InRules n (r ∷ rules) q i a = InTerm n r.body q i a ⊎ InRules (n + size r.body) rules q i a

module _ (q i a : ℕ) where
  abbrev Arg : PointData → Type 0
  Arg d = slice_get d.args i ≡ Some a

  abbrev Placed : Option Argument → Type 0
  Placed p = p ≡ Some (record { point = q; place = i })

  abbrev after : (rule n m : ℕ) (t : Tree Head) (ps : List PointData) → At (n + length (term_points rule n t)) ps m Arg → At (n + size t) ps m Arg
  after rule n m t ps = subst (λ (k : ℕ). At (n + k) ps m Arg) (length-term_points rule n t)

  abbrev behind : (rule n m : ℕ) (t : Tree Head) (ps : List PointData) → At (n + size t) ps m Arg → At (n + length (term_points rule n t)) ps m Arg
  behind rule n m t ps = subst (λ (k : ℕ). At (n + k) ps m Arg) (sym (length-term_points rule n t))

  nothing : {X : Type 0} (P : X → Type 0) (n m : ℕ) → At n [] m P → ⊥
  nothing P n m (k, (y, (is, (there, holds)))) = (cc)

  mutual
    term_in : (rule n : ℕ) (t : Tree Head) → Has n (term_points rule n t) q i a → InTerm n t q i a
    term_in rule n (node h ts) has = elim (at-cons Arg n q (record { rule = rule; head = h; args = numbers (n + 1) ts }) (terms_points rule (n + 1) ts) has) [
      | inl here ↦ inl here
      | inr later ↦ inr (terms_in rule (n + 1) ts later)
    ]

    terms_in : (rule n : ℕ) (ts : Trees Head) → Has n (terms_points rule n ts) q i a → InTerms n ts q i a
    terms_in rule n none has = nothing Arg n q has
    terms_in rule n (more t ts) has = elim (at-append Arg n q (term_points rule n t) (terms_points rule (n + size t) ts) has) [
      | inl here ↦ inl (term_in rule n t here)
      | inr later ↦ inr (terms_in rule (n + size t) ts (after rule n q t (terms_points rule (n + size t) ts) later))
    ]

  mutual
    in_term : (rule n : ℕ) (t : Tree Head) → InTerm n t q i a → Has n (term_points rule n t) q i a
    in_term rule n (node h ts) (inl (is, arg)) = (0, (record { rule = rule; head = h; args = numbers (n + 1) ts }, (omega arith, (refl, arg))))
    in_term rule n (node h ts) (inr later) = at-tail Arg n q (record { rule = rule; head = h; args = numbers (n + 1) ts }) (terms_points rule (n + 1) ts) (in_terms rule (n + 1) ts later)

    in_terms : (rule n : ℕ) (ts : Trees Head) → InTerms n ts q i a → Has n (terms_points rule n ts) q i a
    in_terms rule n none later = absurd later
    in_terms rule n (more t ts) (inl here) = at-left Arg n q (term_points rule n t) (terms_points rule (n + size t) ts) (in_term rule n t here)
    in_terms rule n (more t ts) (inr later) =
        at-right Arg n q (term_points rule n t) (terms_points rule (n + size t) ts) (behind rule n q t (terms_points rule (n + size t) ts) (in_terms rule (n + size t) ts later))

  rules_in : (rule n : ℕ) (rules : List Rule) → Has n (rules_points rule n rules) q i a → InRules n rules q i a
  rules_in rule n [] has = nothing Arg n q has
  rules_in rule n (r ∷ rules) has = elim (at-append Arg n q (term_points rule n r.body) (rules_points (rule + 1) (n + size r.body) rules) has) [
    | inl here ↦ inl (term_in rule n r.body here)
    | inr later ↦ inr (rules_in (rule + 1) (n + size r.body) rules (after rule n q r.body (rules_points (rule + 1) (n + size r.body) rules) later))
  ]

  in_rules : (rule n : ℕ) (rules : List Rule) → InRules n rules q i a → Has n (rules_points rule n rules) q i a
  in_rules rule n [] later = absurd later
  in_rules rule n (r ∷ rules) (inl here) = at-left Arg n q (term_points rule n r.body) (rules_points (rule + 1) (n + size r.body) rules) (in_term rule n r.body here)
  in_rules rule n (r ∷ rules) (inr later) =
      at-right Arg n q (term_points rule n r.body) (rules_points (rule + 1) (n + size r.body) rules)
      (behind rule n q r.body (rules_points (rule + 1) (n + size r.body) rules) (in_rules (rule + 1) (n + size r.body) rules later))

-- as many places as points
mutual
  length-term_places : (f : Option Argument) (n : ℕ) (t : Tree Head) → length (term_places f n t) ≡ size t
  length-term_places f n (node h ts) = omega (arith, length-terms_places n 0 (n + 1) ts)

  length-terms_places : (q i n : ℕ) (ts : Trees Head) → length (terms_places q i n ts) ≡ sizes ts
  length-terms_places q i n none = refl
  length-terms_places q i n (more t ts) =
      length-append (term_places (Some (record { point = q; place = i })) n t) (terms_places q (i + 1) (n + size t) ts)
      ∙ omega (arith, length-term_places (Some (record { point = q; place = i })) n t, length-terms_places q (i + 1) (n + size t) ts)

abbrev arg : ℕ → ℕ → Option Argument
arg p j = Some (record { point = p; place = j })

same_fields : (x y : Argument) → Some x ≡ Some y → (x.point ≡ y.point) × (x.place ≡ y.place)
same_fields x y e = let f : x ≡ y = cc in (ap (λ (z : Argument). z.point) f, ap (λ (z : Argument). z.place) f)

module _ (q i a : ℕ) where
  abbrev IsIt : Option Argument → Type 0
  IsIt p = p ≡ Some (record { point = q; place = i })

  abbrev past : (f : Option Argument) (n : ℕ) (t : Tree Head) (ls : List (Option Argument)) → At (n + length (term_places f n t)) ls a IsIt → At (n + size t) ls a IsIt
  past f n t ls = subst (λ (k : ℕ). At (n + k) ls a IsIt) (length-term_places f n t)

  abbrev further : (f : Option Argument) (n : ℕ) (t : Tree Head) (ls : List (Option Argument)) → At (n + size t) ls a IsIt → At (n + length (term_places f n t)) ls a IsIt
  further f n t ls = subst (λ (k : ℕ). At (n + k) ls a IsIt) (sym (length-term_places f n t))

  same_place : (p j m : ℕ) → p ≡ q → j + m ≡ i → m ≡ 0 → arg p j ≡ arg q i
  same_place p j m e f z = let g : j ≡ i = omega arith in λ k. arg (e k) (g k)

  numbers_placed : (p j n m : ℕ) (ts : Trees Head) → slice_get (numbers n ts) m ≡ Some a → p ≡ q → j + m ≡ i → At n (terms_places p j n ts) a IsIt
  numbers_placed p j n m none at e f = absurd (cc)
  numbers_placed p j n zero (more (node h us) ts) at e f =
      let is : n ≡ a = same_some (λ _. Unit {0}) n a at in (0, (Some (record { point = p; place = j }), (omega arith, (refl, same_place p j 0 e f refl))))
  numbers_placed p j n (suc m) (more t ts) at e f =
      at-right IsIt n a (term_places (Some (record { point = p; place = j })) n t) (terms_places p (j + 1) (n + size t) ts)
      (further (Some (record { point = p; place = j })) n t (terms_places p (j + 1) (n + size t) ts) (numbers_placed p (j + 1) (n + size t) m ts at e (omega arith)))

  mutual
    placed_term : (f : Option Argument) (n : ℕ) (t : Tree Head) → InTerm n t q i a → At n (term_places f n t) a IsIt
    placed_term f n (node h ts) (inl (is, arg)) = at-tail IsIt n a f (terms_places n 0 (n + 1) ts) (numbers_placed n 0 (n + 1) i ts arg (sym is) (omega arith))
    placed_term f n (node h ts) (inr later) = at-tail IsIt n a f (terms_places n 0 (n + 1) ts) (placed_terms n 0 (n + 1) ts later)

    placed_terms : (p j n : ℕ) (ts : Trees Head) → InTerms n ts q i a → At n (terms_places p j n ts) a IsIt
    placed_terms p j n none later = absurd later
    placed_terms p j n (more t ts) (inl here) =
        at-left IsIt n a (term_places (Some (record { point = p; place = j })) n t) (terms_places p (j + 1) (n + size t) ts) (placed_term (Some (record { point = p; place = j })) n t here)
    placed_terms p j n (more t ts) (inr later) =
        at-right IsIt n a (term_places (Some (record { point = p; place = j })) n t) (terms_places p (j + 1) (n + size t) ts)
        (further (Some (record { point = p; place = j })) n t (terms_places p (j + 1) (n + size t) ts) (placed_terms p (j + 1) (n + size t) ts later))

  placed_rules : (n : ℕ) (rules : List Rule) → InRules n rules q i a → At n (rules_places n rules) a IsIt
  placed_rules n [] later = absurd later
  placed_rules n (r ∷ rules) (inl here) = at-left IsIt n a (term_places None n r.body) (rules_places (n + size r.body) rules) (placed_term None n r.body here)
  placed_rules n (r ∷ rules) (inr later) =
      at-right IsIt n a (term_places None n r.body) (rules_places (n + size r.body) rules) (further None n r.body (rules_places (n + size r.body) rules) (placed_rules (n + size r.body) rules later))

  abbrev Among : ℕ → ℕ → ℕ → Trees Head → Type 0
  Among p j n ts = (q ≡ p) × ((m : ℕ) × ((i ≡ j + m) × (slice_get (numbers n ts) m ≡ Some a)))

  its_point : (p j : ℕ) → arg p j ≡ arg q i → (q ≡ p) × (i ≡ j)
  its_point p j e = let s = same_fields (record { point = p; place = j }) (record { point = q; place = i }) e in (sym s.0, sym s.1)

  empty_places : (n : ℕ) → At n [] a IsIt → ⊥
  empty_places n (k, (y, (is, (there, holds)))) = (cc)

  among_first : (p j n : ℕ) (t : Tree Head) (ts : Trees Head) → a ≡ n → arg p j ≡ arg q i → Among p j n (more t ts)
  among_first p j n t ts is e = let s = its_point p j e in (s.0, (0, (omega (arith, s.1), ap (λ (k : ℕ). Some k) (sym is))))

  among_later : (p j n : ℕ) (t : Tree Head) (ts : Trees Head) → Among p (j + 1) (n + size t) ts → Among p j n (more t ts)
  among_later p j n t ts (e, (m, (is, at))) = (e, (suc m, (omega arith, at)))

  own : (n : ℕ) (h : Head) (ts : Trees Head) → Among n 0 (n + 1) ts → InTerm n (node h ts) q i a
  own n h ts (e, (m, (is, at))) = let f : m ≡ i = omega arith in inl (e, subst (λ (k : ℕ). slice_get (numbers (n + 1) ts) k ≡ Some a) f at)

  mutual
    term_placed : (f : Option Argument) (n : ℕ) (t : Tree Head) → At n (term_places f n t) a IsIt → ((a ≡ n) × IsIt f) ⊎ InTerm n t q i a
    term_placed f n (node h ts) at = elim (at-cons IsIt n a f (terms_places n 0 (n + 1) ts) at) [
      | inl here ↦ inl here
      | inr later ↦ elim (terms_placed n 0 (n + 1) ts later) [
        | inl among ↦ inr (own n h ts among)
        | inr deeper ↦ inr (inr deeper)
      ]
    ]

    terms_placed : (p j n : ℕ) (ts : Trees Head) → At n (terms_places p j n ts) a IsIt → Among p j n ts ⊎ InTerms n ts q i a
    terms_placed p j n none at = absurd (empty_places n at)
    terms_placed p j n (more t ts) at = elim (at-append IsIt n a (term_places (Some (record { point = p; place = j })) n t) (terms_places p (j + 1) (n + size t) ts) at) [
      | inl here ↦ elim (term_placed (Some (record { point = p; place = j })) n t here) [
        | inl first ↦ inl (among_first p j n t ts first.0 first.1)
        | inr deeper ↦ inr (inl deeper)
      ]
      | inr later ↦ elim (terms_placed p (j + 1) (n + size t) ts (past (Some (record { point = p; place = j })) n t (terms_places p (j + 1) (n + size t) ts) later)) [
        | inl among ↦ inl (among_later p j n t ts among)
        | inr deeper ↦ inr (inr deeper)
      ]
    ]

  rules_placed : (n : ℕ) (rules : List Rule) → At n (rules_places n rules) a IsIt → InRules n rules q i a
  rules_placed n [] at = empty_places n at
  rules_placed n (r ∷ rules) at = elim (at-append IsIt n a (term_places None n r.body) (rules_places (n + size r.body) rules) at) [
    | inl here ↦ elim (term_placed None n r.body here) [
      | inl first ↦ absurd (let e = first.1 in cc)
      | inr deeper ↦ inl deeper
    ]
    | inr later ↦ inr (rules_placed (n + size r.body) rules (past None n r.body (rules_places (n + size r.body) rules) later))
  ]

  at_number : (ls : List (Option Argument)) → At 0 ls a IsIt → slice_get ls a ≡ Some (Some (record { point = q; place = i }))
  at_number ls (k, (y, (is, (there, holds)))) = let e : k ≡ a = omega arith in subst (λ (n : ℕ). slice_get ls n ≡ Some (Some (record { point = q; place = i }))) e (there ∙ ap (λ (p : Option Argument). Some p) holds)

  has_argument : (p : PointsData) → Has 0 p.points q i a → IsArgument p q i a
  has_argument p (k, (d, (is, (there, holds)))) =
      let e : k ≡ q = omega arith in
      ap (λ (x : PointData). slice_get x.args i) (get_or_from_slice_get p.points q d (record { rule = 0; head = Tm 0; args = [] }) (subst (λ (n : ℕ). slice_get p.points n ≡ Some d) e there)) ∙ holds

  no_argument : (p : PointsData) → length p.points ≤ q → IsArgument p q i a → ⊥
  no_argument p past_end h =
      let e : (point_at p q).args ≡ [] = ap (λ (x : PointData). x.args) (get_or_past p.points q (record { rule = 0; head = Tm 0; args = [] }) past_end) in
      let f : slice_get (point_at p q).args i ≡ None = ap (λ (xs : List ℕ). slice_get xs i) e in (cc)

  argument_has : (p : PointsData) → IsArgument p q i a → Has 0 p.points q i a
  argument_has p h = elim (cases_lt q (length p.points)) [
    | inl lt ↦ (q, (point_at p q, (omega arith, (slice_get-get_or p.points q (record { rule = 0; head = Tm 0; args = [] }) lt, h))))
    | inr ge ↦ absurd (no_argument p ge h)
  ]

pub exact : (rules : List Rule) → ArePlacesOfArguments (points_of rules) (rules_places 0 rules)
exact rules a q i = (λ h. has_argument q i a (points_of rules) (in_rules q i a 0 0 rules (rules_placed q i a 0 rules (a, (Some (record { point = q; place = i }), (omega arith, (h, refl)))))), λ h. at_number q i a (rules_places 0 rules) (placed_rules q i a 0 rules (rules_in q i a 0 0 rules (argument_has q i a (points_of rules) h))))

same_argument : (x y : Argument) → Some (Some x) ≡ Some (Some y) → (x.point ≡ y.point) × (x.place ≡ y.place)
same_argument x y e = let f : x ≡ y = cc in (ap (λ (z : Argument). z.point) f, ap (λ (z : Argument). z.place) f)

-- a point is the argument of one point at most, at one place
pub once : (rules : List Rule) (a q i r j : ℕ) → IsArgument (points_of rules) q i a → IsArgument (points_of rules) r j a → (q ≡ r) × (i ≡ j)
once rules a q i r j h k = same_argument (record { point = q; place = i }) (record { point = r; place = j }) (sym ((exact rules a q i).1 h) ∙ (exact rules a r j).1 k)
