-- The users of a parameter, one point after another.
use Rattle.std.proofs.Common.{◌≡◌, ◌≢◌, AllPairs, refl, sym, ◌∙◌, ap, subst, ℕ, ◌+◌, ◌<◌, Bool, true, false, ◌&&◌, List, [], ◌∷◌, ◌++◌, Some, cond, nat_eq, nat_lt, slice_index, Contains, slice_get, get_or, length, ◌↔◌, inl, inr, arith}
use Rattle.std.proofs.lemmas.Bool.{eqb-true, eq-eqb, cases_lt, and_parts}
use Rattle.std.proofs.lemmas.List.Elements.{Contains-append_left, Contains-append_right, Contains-append_cases, Contains-get_or}
use Rattle.std.proofs.lemmas.List.Quantifiers.{all_pairs_push}
use Rattle.hs_scheme.specs.declared.term.Head.TheVariants.{Var}
use Rattle.hs_scheme.specs.Key.{key_eq}
use Rattle.hs_scheme.specs.flow.Points.{PointData}
use Rattle.hs_scheme.specs.sorting.Parameters.{IsParameter, parameter_of}
use Rattle.hs_scheme.proofs.ParameterLemmas.{number_once}
use Rattle.hs_scheme.proofs.Lists.{only as only_in, here as first_in}
use Rattle.std.proofs.lemmas.Bool.Decides.{nat_tests}
use Rattle.std.proofs.lemmas.Option.{same_Some}
use Rattle.hs_flow.specs.Lists.{list_of}
use Rattle.hs_flow.specs.Users.{list_for, IsUser}

pub lt_of : (x n : ℕ) → nat_lt x n ≡ true → x < n
lt_of x n h = grind (arith, nat_tests)

not_lt : (x n : ℕ) → nat_lt x n ≡ false → x < n → ⊥
not_lt x n h lt = grind (arith, nat_tests)

pub is_lt : (x n : ℕ) → x < n → nat_lt x n ≡ true
is_lt x n lt = grind (arith, nat_tests)

isnt_lt : (x n : ℕ) → (x < n → ⊥) → nat_lt x n ≡ false
isnt_lt x n never = by (nat_lt x n) refl
  where
    by : (t : Bool) → nat_lt x n ≡ t → t ≡ false
    by true e = absurd (never (lt_of x n e))
    by false e = refl

-- the list of a parameter, and where there is none
pub list_is : (counts : List ℕ) (rows : List (List ℕ)) (rule x n : ℕ) → IsParameter counts rule x → n ≡ parameter_of counts rule x → list_of rows n ≡ list_for counts rows rule x
list_is counts rows rule x n lt is = ap (list_of rows) is ∙ ap (λ t. cond t (list_of rows (parameter_of counts rule x)) []) (sym (is_lt x (slice_index counts rule) lt))

pub no_list : (counts : List ℕ) (rows : List (List ℕ)) (rule x : ℕ) → (IsParameter counts rule x → ⊥) → [] ≡ list_for counts rows rule x
no_list counts rows rule x never = ap (λ t. cond t (list_of rows (parameter_of counts rule x)) []) (sym (isnt_lt x (slice_index counts rule) never))

pub all_empty : (counts : List ℕ) (rows : List (List ℕ)) (rule x : ℕ) → ((k : ℕ) → list_of rows k ≡ []) → list_for counts rows rule x ≡ []
all_empty counts rows rule x empty = by (nat_lt x (slice_index counts rule))
  where
    by : (t : Bool) → cond t (list_of rows (parameter_of counts rule x)) [] ≡ []
    by true = empty (parameter_of counts rule x)
    by false = refl

-- the list of one parameter gets the point at its end
module _ (counts : List ℕ) (old new : List (List ℕ)) (n rule param point : ℕ) (here : IsParameter counts rule param) (is : n ≡ parameter_of counts rule param)
    (grown : (k : ℕ) → list_of new k ≡ cond (nat_eq k n) (list_of old k ++ point ∷ []) (list_of old k)) (r x : ℕ) where
  abbrev at : ℕ
  at = parameter_of counts r x

  abbrev key : Bool
  key = nat_eq rule r && nat_eq param x

  same_key : IsParameter counts r x → nat_eq at n ≡ key
  same_key there = by (nat_eq at n) refl
    where
      found : at ≡ n → key ≡ true
      found e = let p = number_once counts rule param r x here there (sym is ∙ sym e) in rw (eq-eqb rule r p.0, eq-eqb param x p.1)

      lost : (t : Bool) → key ≡ t → nat_eq at n ≡ false → t ≡ false
      lost true k e =
          let p = and_parts (nat_eq rule r) (nat_eq param x) k in
          let same : at ≡ n = (λ i. parameter_of counts (sym (eqb-true rule r p.0) i) (sym (eqb-true param x p.1) i)) ∙ sym is in
          let f : nat_eq at n ≡ true = eq-eqb at n same in absurd (cc)
      lost false k e = refl

      by : (t : Bool) → nat_eq at n ≡ t → t ≡ key
      by true e = sym (found (eqb-true at n e))
      by false e = sym (lost key refl e)

  other_key : (IsParameter counts r x → ⊥) → key ≡ false
  other_key never = by key refl
    where
      by : (t : Bool) → key ≡ t → t ≡ false
      by true k =
          let p = and_parts (nat_eq rule r) (nat_eq param x) k in
          absurd (never (subst (λ (y : ℕ). IsParameter counts r y) (eqb-true param x p.1) (subst (λ (q : ℕ). IsParameter counts q param) (eqb-true rule r p.0) here)))
      by false k = refl

  pub user_added : list_for counts new r x ≡ cond key (list_for counts old r x ++ point ∷ []) (list_for counts old r x)
  user_added = by (nat_lt x (slice_index counts r)) refl
    where
      by : (t : Bool) → nat_lt x (slice_index counts r) ≡ t → cond t (list_of new at) [] ≡ cond key (cond t (list_of old at) [] ++ point ∷ []) (cond t (list_of old at) [])
      by true e = grown at ∙ ap (λ t. cond t (list_of old at ++ point ∷ []) (list_of old at)) (same_key (lt_of x (slice_index counts r) e))
      by false e = sym (ap (λ t. cond t ([] ++ point ∷ []) []) (other_key (not_lt x (slice_index counts r) e)))

module _ (points : List PointData) (n : ℕ) (d : PointData) (at : slice_get points n ≡ Some d) (was : ℕ → ℕ → List ℕ) (so_far : (rule x p : ℕ) → Contains (was rule x) p ↔ ((p < n) × IsUser points rule x p)) where
  same_point : (p : ℕ) (e : PointData) → slice_get points p ≡ Some e → n ≡ p → d ≡ e
  same_point p e at_p same = same_Some d e (sym at ∙ (ap (λ k. slice_get points k) same ∙ at_p))

  pub user_skip : ((x : ℕ) → d.head ≡ Var x → ⊥) → (rule x p : ℕ) → Contains (was rule x) p ↔ ((p < n + 1) × IsUser points rule x p)
  user_skip other rule x p = (
    λ h. let w = (so_far rule x p).0 h in (omega (arith, w.0), w.1),
    λ h. elim (cases_lt p n) [
      | inl less ↦ (so_far rule x p).1 (less, h.1)
      | inr more ↦ absurd (other x (ap (λ (e : PointData). e.head) (same_point p h.1.of h.1.at (omega (arith, h.0))) ∙ h.1.head_is))
    ],
  )

  module _ (param : ℕ) (head : d.head ≡ Var param) (now : ℕ → ℕ → List ℕ) (grown : (rule x : ℕ) → now rule x ≡ cond (key_eq (d.rule, param) (rule, x)) (was rule x ++ n ∷ []) (was rule x)) where
    kept : (rule x p : ℕ) → Contains (was rule x) p → Contains (now rule x) p
    kept rule x p h = subst (λ (ps : List ℕ). Contains ps p) (sym (grown rule x)) (by (key_eq (d.rule, param) (rule, x)))
      where
        by : (t : Bool) → Contains (cond t (was rule x ++ n ∷ []) (was rule x)) p
        by true = Contains-append_left (was rule x) (n ∷ []) p h
        by false = h

    var_same : (x y : ℕ) → Var x ≡ Var y → x ≡ y
    var_same x y e = (cc)

    added : (rule x p : ℕ) → n ≡ p → IsUser points rule x p → Contains (now rule x) p
    added rule x p same u =
        let e = same_point p u.of u.at same in
        let same_rule : d.rule ≡ rule = ap (λ (q : PointData). q.rule) e ∙ u.rule_is in
        let same_param : param ≡ x = var_same param x (sym head ∙ (ap (λ (q : PointData). q.head) e ∙ u.head_is)) in
        let here : key_eq (d.rule, param) (rule, x) ≡ true = (λ i. nat_eq (same_rule i) rule && nat_eq (same_param i) x) ∙ rw (eq-eqb rule rule refl, eq-eqb x x refl) in
        subst (λ (ps : List ℕ). Contains ps p) (sym (grown rule x ∙ ap (λ t. cond t (was rule x ++ n ∷ []) (was rule x)) here))
        (Contains-append_right (was rule x) (n ∷ []) p (subst (λ k. Contains (n ∷ []) k) same (first_in n [])))

    only : (rule x p : ℕ) (t : Bool) → key_eq (d.rule, param) (rule, x) ≡ t → Contains (cond t (was rule x ++ n ∷ []) (was rule x)) p → (p < n + 1) × IsUser points rule x p
    only rule x p true here h = elim (Contains-append_cases (was rule x) (n ∷ []) p h) [
      | inl old ↦ let w = (so_far rule x p).0 old in (omega (arith, w.0), w.1)
      | inr last ↦
          let same : p ≡ n = only_in n p last in let k = and_parts (nat_eq d.rule rule) (nat_eq param x) here in
          (omega arith, record { of = d; at = ap (λ j. slice_get points j) same ∙ at; rule_is = eqb-true d.rule rule k.0; head_is = head ∙ ap (λ y. Var y) (eqb-true param x k.1) })
    ]
    only rule x p false elsewhere h = let w = (so_far rule x p).0 h in (omega (arith, w.0), w.1)

    pub user_step : (rule x p : ℕ) → Contains (now rule x) p ↔ ((p < n + 1) × IsUser points rule x p)
    user_step rule x p = (
      λ h. only rule x p (key_eq (d.rule, param) (rule, x)) refl (subst (λ (ps : List ℕ). Contains ps p) (grown rule x) h),
      λ h. elim (cases_lt p n) [
        | inl less ↦ kept rule x p ((so_far rule x p).1 (less, h.1))
        | inr more ↦ added rule x p (omega (arith, h.0)) h.1
      ],
    )

-- a list that gets a point behind those it has
pub once_more : (was : List ℕ) (n : ℕ) (t : Bool) → ((p : ℕ) → Contains was p → p < n) → AllPairs (λ a b. a ≢ b) was → AllPairs (λ a b. a ≢ b) (cond t (was ++ n ∷ []) was)
once_more was n true below once = all_pairs_push (λ a b. a ≢ b) was n once (λ i d lt e. omega (arith, below (get_or was i d) (Contains-get_or was i d lt)))
once_more was n false below once = once

-- where there are none
pub no_user : (us vs : List ℕ) (empty : Bool) → us ≡ vs → empty ≡ nat_eq (length us) 0 → empty ≡ true → (p : ℕ) → Contains vs p → ⊥
no_user us vs empty same is none p h =
    let k = subst (λ (xs : List ℕ). Contains xs p) (sym same) h in
    omega (arith, k.1, eqb-true (length us) 0 (sym is ∙ none))
