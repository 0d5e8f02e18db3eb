-- Marks of parameters, by their numbers.
use Rattle.std.proofs.Common.{◌≡◌, refl, sym, ◌∙◌, ap, ℕ, zero, suc, ◌+◌, ◌<◌, ◌≤◌, Bool, true, false, List, [], ◌∷◌, ◌++◌, length, take, get_or, sum, arith, add-one}
use Rattle.std.specs.Prelude.{◌||◌, ◌&&◌, nat_eq, nat_le, nat_lt, slice_set}
use Rattle.std.proofs.lemmas.Bool.{eq-eqb, eqb-true, lt-ltb, ltb-true, le-leb, leb-true, and_from, and_parts, false_from_ne_true}
use Rattle.std.proofs.Math.Seq.{take-suc}
use Rattle.std.specs.Cmp.{both_ways}
use Rattle.std.proofs.Math.Bool.{or-false}
use Rattle.hs_scheme.specs.sorting.Parameters.{IsParameter, parameter_of}
use Rattle.hs_scheme.proofs.ParameterLemmas.{number_once, number_within}
use Rattle.hs_scheme.specs.declared.term.Head.{Head}
use Rattle.hs_scheme.specs.declared.term.Rule.{Rule}
use Rattle.hs_scheme.specs.Tree.{Tree, node, forest, children-forest}
use Rattle.hs_passes.specs.Leaving.{Keep, keeps}
use Rattle.hs_passes.specs.Unused.{needs_at, of_some}
use Rattle.hs_passes.specs.Needing.{live, live_in, GainsFlags}
use Rattle.hs_passes.specs.Selection.{stays}

pub or_assoc : (a b c : Bool) → ((a || b) || c) ≡ (a || (b || c))
or_assoc true b c = refl
or_assoc false b c = refl

later_not_first : (m : ℕ) → nat_eq (suc m) 0 ≡ false
later_not_first m = false_from_ne_true (nat_eq (suc m) 0) (λ e. let is : suc m ≡ 0 = eqb-true (suc m) 0 e in absurd (omega arith))

first_not_later : (n : ℕ) → nat_eq 0 (suc n) ≡ false
first_not_later n = false_from_ne_true (nat_eq 0 (suc n)) (λ e. let is : 0 ≡ suc n = eqb-true 0 (suc n) e in absurd (omega arith))

both_later : (m n : ℕ) → nat_eq (suc m) (suc n) ≡ nat_eq m n
both_later m n =
    both_ways (nat_eq (suc m) (suc n)) (nat_eq m n)
    (λ e. let is : suc m ≡ suc n = eqb-true (suc m) (suc n) e in eq-eqb m n (omega arith))
    (λ e. eq-eqb (suc m) (suc n) (ap suc (eqb-true m n e)))

pub stays-set : (flags : List Bool) (n m : ℕ) → n < length flags → stays (slice_set flags n true) m ≡ (stays flags m || nat_eq m n)
stays-set [] n m lt = absurd (omega arith)
stays-set (b ∷ flags) zero zero lt = by b
  where
    by : (c : Bool) → true ≡ (c || true)
    by true = refl
    by false = refl
stays-set (b ∷ flags) zero (suc m) lt = sym (ap (λ e. stays flags m || e) (later_not_first m) ∙ or-false (stays flags m))
stays-set (b ∷ flags) (suc n) zero lt = sym (ap (λ e. b || e) (first_not_later n) ∙ or-false b)
stays-set (b ∷ flags) (suc n) (suc m) lt = stays-set flags n m (omega arith) ∙ ap (λ e. stays flags m || e) (sym (both_later m n))

module _ (counts : List ℕ) where
  pub gains_nothing : (flags : List Bool) → GainsFlags counts flags flags (λ f j. false)
  gains_nothing flags f j is = sym (or-false (stays flags (parameter_of counts f j)))

  pub gains_both : (old mid new : List Bool) (one two : ℕ → ℕ → Bool) → GainsFlags counts old mid one → GainsFlags counts mid new two → GainsFlags counts old new (λ f j. one f j || two f j)
  gains_both old mid new one two g h f j is =
      h f j is ∙ (ap (λ b. b || two f j) (g f j is) ∙ or_assoc (stays old (parameter_of counts f j)) (one f j) (two f j))

  pub gains_same : (old new : List Bool) (one two : ℕ → ℕ → Bool) → ((f j : ℕ) → IsParameter counts f j → one f j ≡ two f j) → GainsFlags counts old new one → GainsFlags counts old new two
  gains_same old new one two same g f j is = g f j is ∙ ap (λ b. stays old (parameter_of counts f j) || b) (same f j is)

  module _ (rule param : ℕ) where
    same_number : (f j : ℕ) → IsParameter counts rule param → IsParameter counts f j → nat_eq (parameter_of counts f j) (parameter_of counts rule param) ≡ (nat_eq rule f && nat_eq param j)
    same_number f j p q =
        both_ways (nat_eq (parameter_of counts f j) (parameter_of counts rule param)) (nat_eq rule f && nat_eq param j)
        (λ e.
        let once = number_once counts rule param f j p q (sym (eqb-true (parameter_of counts f j) (parameter_of counts rule param) e)) in
        and_from (nat_eq rule f) (nat_eq param j) (eq-eqb rule f once.0) (eq-eqb param j once.1))
        (λ e.
        let b = and_parts (nat_eq rule f) (nat_eq param j) e in
        eq-eqb (parameter_of counts f j) (parameter_of counts rule param) (λ i. parameter_of counts (sym (eqb-true rule f b.0) i) (sym (eqb-true param j b.1) i)))

    pub marked_one : (old : List Bool) → length old ≡ sum counts → IsParameter counts rule param
        → GainsFlags counts old (slice_set old (parameter_of counts rule param) true) (λ f j. nat_eq rule f && nat_eq param j)
    marked_one old long p f j q =
        stays-set old (parameter_of counts rule param) (parameter_of counts f j) (omega (arith, long, number_within counts rule param p))
        ∙ ap (λ b. stays old (parameter_of counts f j) || b) (same_number f j p q)

  -- the parameters of a rule behind the given ones, up to one of them
  module _ (rule given : ℕ) where
    abbrev pub Missing : ℕ → ℕ → ℕ → Bool
    Missing k f j = nat_eq rule f && (nat_le given j && nat_lt j k)

    no_less : (j : ℕ) → nat_lt j 0 ≡ false
    no_less j = false_from_ne_true (nat_lt j 0) (λ e. absurd (omega (arith, ltb-true j 0 e)))

    parts : (f j k : ℕ) → Missing k f j ≡ true → (rule ≡ f) × (given ≤ j) × (j < k)
    parts f j k e =
        let a = and_parts (nat_eq rule f) (nat_le given j && nat_lt j k) e in
        let b = and_parts (nat_le given j) (nat_lt j k) a.1 in
        (eqb-true rule f a.0, leb-true given j b.0, ltb-true j k b.1)

    is_missing : (f j k : ℕ) → rule ≡ f → given ≤ j → j < k → Missing k f j ≡ true
    is_missing f j k p q r = and_from (nat_eq rule f) (nat_le given j && nat_lt j k) (eq-eqb rule f p) (and_from (nat_le given j) (nat_lt j k) (le-leb given j q) (lt-ltb j k r))

-- arguments one after another
live_in-append : (keep : Keep) (g f j : ℕ) (p : ℕ → Bool) (us : List (Tree Head)) (u : Tree Head) → live_in keep g f j p (forest (us ++ u ∷ [])) ≡ (live_in keep g f j p (forest us) || (p (length us) && live keep g f j u))
live_in-append keep g f j p [] u = or-false (p 0 && live keep g f j u)
live_in-append keep g f j p (v ∷ us) u =
    let here = p 0 && live keep g f j v in
    ap (λ b. here || b) (live_in-append keep g f j (λ i. p (suc i)) us u) ∙ sym (or_assoc here (live_in keep g f j (λ i. p (suc i)) (forest us)) (p (suc (length us)) && live keep g f j u))

pub live_in-more : (keep : Keep) (g f j : ℕ) (p : ℕ → Bool) (us : List (Tree Head)) (i : ℕ) (d : Tree Head) → i < length us → length (take i us) ≡ i
    → live_in keep g f j p (forest (take (i + 1) us)) ≡ (live_in keep g f j p (forest (take i us)) || (p i && live keep g f j (get_or us i d)))
live_in-more keep g f j p us i d lt long =
    ap (λ n. live_in keep g f j p (forest (take n us))) (add-one i)
    ∙ (ap (λ vs. live_in keep g f j p (forest vs)) (take-suc us i d lt)
    ∙ (live_in-append keep g f j p (take i us) (get_or us i d) ∙ ap (λ n. live_in keep g f j p (forest (take i us)) || (p n && live keep g f j (get_or us i d))) long))

-- a term by its head and the list of its arguments
pub whole : (keep : Keep) (g f j : ℕ) (h : Head) (us : List (Tree Head)) → (needs_at g f j h (length us) || live_in keep g f j (keeps keep h) (forest us)) ≡ live keep g f j (node h (forest us))
whole keep g f j h us = ap (λ vs. needs_at g f j h (length vs) || live_in keep g f j (keeps keep h) (forest us)) (sym (children-forest us))

-- rules one after another
of_some-append : (test : ℕ → Rule → Bool) (rules : List Rule) (r : Rule) → of_some test (rules ++ r ∷ []) ≡ (of_some test rules || test (length rules) r)
of_some-append test [] r = or-false (test 0 r)
of_some-append test (q ∷ rules) r =
    ap (λ b. test 0 q || b) (of_some-append (λ g. test (suc g)) rules r) ∙ sym (or_assoc (test 0 q) (of_some (λ g. test (suc g)) rules) (test (suc (length rules)) r))

pub of_some-more : (test : ℕ → Rule → Bool) (rules : List Rule) (i : ℕ) (d : Rule) → i < length rules → length (take i rules) ≡ i
    → of_some test (take (i + 1) rules) ≡ (of_some test (take i rules) || test i (get_or rules i d))
of_some-more test rules i d lt long =
    ap (λ n. of_some test (take n rules)) (add-one i)
    ∙ (ap (of_some test) (take-suc rules i d lt)
    ∙ (of_some-append test (take i rules) (get_or rules i d) ∙ ap (λ n. of_some test (take i rules) || test n (get_or rules i d)) long))
