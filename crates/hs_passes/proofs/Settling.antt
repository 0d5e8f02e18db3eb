-- Flags that are narrowed to what is needed.
use Rattle.std.proofs.Common.{◌≡◌, refl, sym, ◌∙◌, ap, subst, ℕ, zero, suc, ◌+◌, ◌<◌, ◌≤◌, Bool, true, false, cond, List, [], ◌∷◌, length, slice_get, Some, inl, inr, arith}
use Rattle.std.specs.Prelude.{◌&&◌, nat_lt, slice_set, slice_index, sum, replicate}
use Rattle.std.proofs.lemmas.Bool.{and_from, lt-ltb, ltb-true, cases_lt, and_parts, and_right}
use Rattle.std.proofs.lemmas.Option.{slice_get_cases}
use Rattle.std.proofs.lemmas.List.{get_or-map, get_or_past, get_or-replicate, length-map}
use Rattle.std.proofs.Math.Nat.{eq-or-lt_of_le}
use Rattle.hs_scheme.specs.sorting.Parameters.{counts_of, IsParameter, parameter_of}
use Rattle.hs_scheme.proofs.ParameterLemmas.{sum_few, there, number_within}
use Rattle.hs_scheme.specs.Scheme.{AreRules}
use Rattle.hs_scheme.specs.declared.term.Rule.{Rule}
use Rattle.hs_passes.specs.Selection.{stays}
use Rattle.hs_passes.specs.Narrowing.{count_true}
use Rattle.hs_passes.specs.Needing.{is_live, kept, KeepsOnlyLive, IsAbove}
use Rattle.hs_passes.proofs.Needs.{is_live-mono}

-- the parameters of a scheme are few
pub sum_of_few : (rules : List Rule) (terminals : ℕ) → AreRules rules terminals → (others : List Rule) → others ≡ rules → sum (counts_of others) < 4294967296
sum_of_few rules terminals are others e = subst (λ (rs : List Rule). sum (counts_of rs) < 4294967296) (sym e) (omega (arith, sum_few rules 64 are.few_params, are.few_rules))

-- the rule of a parameter
pub record Its (rules : List Rule) (f j : ℕ) : Type 0 where
  pub rule : Rule
  pub at : slice_get rules f ≡ Some rule
  pub within : j < rule.params

pub its : (rules : List Rule) (f j : ℕ) → IsParameter (counts_of rules) f j → Its rules f j
its rules f j is = elim (slice_get_cases rules f).1 [
  | inl (r, lt, at, same) ↦
      record { rule = r; at = at; within = subst (λ n. j < n) (get_or-map (λ (q : Rule). q.params) rules f r 0 lt ∙ ap (λ (q : Rule). q.params) same) is }
  | inr (past, _) ↦ absurd (omega (arith, past, there (counts_of rules) f j is, length-map rules (λ (q : Rule). q.params)))
]

is_its : (rules : List Rule) (f j : ℕ) (r : Rule) → slice_get rules f ≡ Some r → j < r.params → IsParameter (counts_of rules) f j
is_its [] f j r at lt = absurd (cc)
is_its (q ∷ rules) zero j r at lt = let is : q ≡ r = (cc) in subst (λ (k : Rule). j < k.params) (sym is) lt
is_its (q ∷ rules) (suc f) j r at lt = is_its rules f j r at lt

module _ (rules : List Rule) (counts : List ℕ) (are : counts ≡ counts_of rules) where
  kept_at : (flags : List Bool) (f j : ℕ) → IsParameter counts f j → kept counts flags f j ≡ stays flags (parameter_of counts f j)
  kept_at flags f j is = ap (λ b. cond b (stays flags (parameter_of counts f j)) true) (lt-ltb j (slice_index counts f) is)

  -- a parameter that its flag keeps stays, and so does none that is no parameter
  pub kept_from : (flags : List Bool) (f j : ℕ) → (IsParameter counts f j → stays flags (parameter_of counts f j) ≡ true) → kept counts flags f j ≡ true
  kept_from flags f j on = by (nat_lt j (slice_index counts f)) refl
    where
      by : (b : Bool) → nat_lt j (slice_index counts f) ≡ b → cond b (stays flags (parameter_of counts f j)) true ≡ true
      by true e = on (ltb-true j (slice_index counts f) e)
      by false e = refl

  -- nothing is above all parameters
  pub all_above : IsAbove rules (kept counts (replicate (sum counts) true))
  all_above other supported f j on =
      kept_from (replicate (sum counts) true) f j (λ is. get_or-replicate (sum counts) (parameter_of counts f j) true false (number_within counts f j is))

  module _ (old new marks : List Bool) (each : (n : ℕ) → stays new n ≡ (stays old n && stays marks n))
      (needed : (f j : ℕ) → IsParameter counts f j → stays marks (parameter_of counts f j) ≡ is_live (kept counts old) rules f j) where
    pub still_above : IsAbove rules (kept counts old) → IsAbove rules (kept counts new)
    still_above above other supported f j on =
        kept_from new f j (λ is.
        let n = parameter_of counts f j in
        let r = its rules f j (subst (λ cs. IsParameter cs f j) are is) in
        each n
        ∙ and_from (stays old n) (stays marks n) (sym (kept_at old f j is) ∙ above other supported f j on)
        (needed f j is ∙ is_live-mono other (kept counts old) (above other supported) rules f j (supported f j r.rule r.at r.within on)))

    pub then_supported : new ≡ old → KeepsOnlyLive rules (kept counts new)
    then_supported same f j r at lt on =
        let n = parameter_of counts f j in
        let is : IsParameter counts f j = subst (λ cs. IsParameter cs f j) (sym are) (is_its rules f j r at lt) in
        subst (λ flags. is_live (kept counts flags) rules f j ≡ true) (sym same)
        (sym (needed f j is) ∙ (and_parts (stays old n) (stays marks n) (sym (each n) ∙ (sym (kept_at new f j is) ∙ on))).1)

-- a flag that is cleared
pub cleared_here : (flags : List Bool) (i : ℕ) → stays (slice_set flags i false) i ≡ false
cleared_here [] i = refl
cleared_here (b ∷ flags) zero = refl
cleared_here (b ∷ flags) (suc i) = cleared_here flags i

pub cleared_elsewhere : (flags : List Bool) (i n : ℕ) → (n ≡ i → ⊥) → stays (slice_set flags i false) n ≡ stays flags n
cleared_elsewhere [] i n other = refl
cleared_elsewhere (b ∷ flags) zero zero other = absurd (other refl)
cleared_elsewhere (b ∷ flags) zero (suc n) other = refl
cleared_elsewhere (b ∷ flags) (suc i) zero other = refl
cleared_elsewhere (b ∷ flags) (suc i) (suc n) other = cleared_elsewhere flags i n (λ e. other (ap suc e))

pub cleared_fewer : (flags : List Bool) (i : ℕ) → stays flags i ≡ true → count_true (slice_set flags i false) + 1 ≡ count_true flags
cleared_fewer [] i on = absurd (cc)
cleared_fewer (b ∷ flags) zero on = by b on
  where
    by : (c : Bool) → c ≡ true → (0 + count_true flags) + 1 ≡ cond c 1 0 + count_true flags
    by true e = omega arith
    by false e = absurd (cc)
cleared_fewer (b ∷ flags) (suc i) on = let e = cleared_fewer flags i on in omega (arith, e)

-- the flags so far are narrowed, and the others are as before
pub record Narrowed (old needed now : List Bool) (changed : Bool) (i : ℕ) : Type 0 where
  pub done : (n : ℕ) → n < i → stays now n ≡ (stays old n && stays needed n)
  pub ahead : (n : ℕ) → i ≤ n → stays now n ≡ stays old n
  pub same : changed ≡ false → now ≡ old
  pub fewer : count_true now + cond changed 1 0 ≤ count_true old

module _ (old needed now : List Bool) (changed : Bool) (i : ℕ) (h : Narrowed old needed now changed i) where
  at_most : (n : ℕ) → n < i + 1 → n ≤ i
  at_most n lt = omega arith

  pub narrowed_on : stays now i ≡ (stays old i && stays needed i) → Narrowed old needed now changed (i + 1)
  narrowed_on is = record {
    done = λ n lt. elim (eq-or-lt_of_le (at_most n lt)) [
      | inl e ↦ subst (λ k. stays now k ≡ (stays old k && stays needed k)) (sym e) is
      | inr less ↦ h.done n less
    ];
    ahead = λ n le. h.ahead n (omega (arith, le));
    same = h.same;
    fewer = h.fewer;
  }

  pub narrowed_clear : stays now i ≡ true → stays needed i ≡ false → Narrowed old needed (slice_set now i false) true (i + 1)
  narrowed_clear on off = record {
    done = λ n lt. elim (eq-or-lt_of_le (at_most n lt)) [
      | inl e ↦ subst (λ k. stays (slice_set now i false) k ≡ (stays old k && stays needed k)) (sym e) (cleared_here now i ∙ sym (and_right (stays old i) (stays needed i) off))
      | inr less ↦ cleared_elsewhere now i n (λ e. absurd (omega (arith, e, less))) ∙ h.done n less
    ];
    ahead = λ n le. cleared_elsewhere now i n (λ e. absurd (omega (arith, e, le))) ∙ h.ahead n (omega (arith, le));
    same = λ e. absurd (cc);
    fewer = by changed h.fewer;
  }
    where
      by : (c : Bool) → count_true now + cond c 1 0 ≤ count_true old → count_true (slice_set now i false) + 1 ≤ count_true old
      by true le = omega (arith, le, cleared_fewer now i on)
      by false le = omega (arith, le, cleared_fewer now i on)

  -- a flag that is kept is as before, and needed where it was set
  pub narrowed_kept : stays needed i ≡ true → Narrowed old needed now changed (i + 1)
  narrowed_kept on = narrowed_on (h.ahead i (omega arith) ∙ by (stays old i) (stays needed i) on)
    where
      by : (b c : Bool) → c ≡ true → b ≡ (b && c)
      by true c e = sym e
      by false c e = refl

  pub narrowed_off : stays now i ≡ false → Narrowed old needed now changed (i + 1)
  narrowed_off off =
      let was : stays old i ≡ false = sym (h.ahead i (omega arith)) ∙ off in
      narrowed_on (off ∙ sym (ap (λ b. b && stays needed i) was))

  pub narrowed_all : length old ≤ i → (n : ℕ) → stays now n ≡ (stays old n && stays needed n)
  narrowed_all all n = elim (cases_lt n i) [
    | inl lt ↦ h.done n lt
    | inr ge ↦
        let past : stays old n ≡ false = get_or_past old n false (omega (arith, ge, all)) in
        h.ahead n ge ∙ (past ∙ sym (ap (λ b. b && stays needed n) past))
  ]
