-- The flow pairs parameter by parameter, each parameter's in ascending order, are all in ascending order.
use Rattle.std.proofs.Common.{◌≡◌, ◌≢◌, refl, sym, ◌∙◌, ap, subst, ℕ, ◌+◌, ◌<◌, ◌≤◌, Bool, true, false, not, ◌&&◌, nat_eq, nat_lt, List, [], ◌∷◌, ◌++◌, take, filter, cond, sum, inl, inr, Contains, AllPairs, arith}
use Rattle.std.specs.Ordering.{ordering_reverse}
use Rattle.std.specs.declared.cmp.Ordering.{Ordering}
use Rattle.std.specs.declared.cmp.Ordering.TheVariants.{Less, Equal, Greater}
use Rattle.std.specs.List.Sorted.{IsPermutation}
use Rattle.std.proofs.lemmas.Bool.{cases_lt, eqb-true, eq-eqb}
use Rattle.std.proofs.lemmas.List.Sorted.{IsPermutation-filter_both, IsPermutation-append, IsPermutation-trans, IsPermutation-sym, IsPermutation-refl, Contains-permutation}
use Rattle.std.proofs.Math.Bool.{and-false}
use Rattle.hs_scheme.specs.declared.flow.FlowPair.{FlowPair}
use Rattle.hs_scheme.specs.sorting.Parameters.{IsParameter}
use Rattle.hs_scheme.specs.flow.FlowRows.{number_of}
use Rattle.hs_scheme.specs.flow.Flow.{flow_cmp, IsAscending}
use Rattle.hs_scheme.proofs.FlowLemmas.{flow_cmp_total, flow_cmp-equal}
use Rattle.hs_scheme.proofs.ParameterLemmas.{number_less}
use Rattle.hs_scheme.proofs.Orderings.{ascends}
use Rattle.hs_scheme.proofs.FlowRowLemmas.{parts}
use Rattle.hs_scheme.proofs.Lists.{later as further, pairs_append, not_equal}
use Rattle.hs_flow.specs.Tables.{of_number, HasSorted}
use Rattle.hs_flow.proofs.DependentLemmas.{filter_from}
use Rattle.hs_flow.proofs.UserLemmas.{lt_of, is_lt}

-- two tests, one after the other
module _ {X : Type 0} (p q r : X → Bool) (both : (x : X) → q x && p x ≡ r x) where
  twice_step : (x : X) (xs : List X) → filter p (filter q xs) ≡ filter r xs → (t u : Bool) → q x ≡ t → p x ≡ u → filter p (cond t (x ∷ filter q xs) (filter q xs)) ≡ cond (r x) (x ∷ filter r xs) (filter r xs)
  twice_step x xs rest true true e f =
      let rx : r x ≡ true = sym (both x) ∙ (λ i. e i && f i) in
      ap (λ b. cond b (x ∷ filter p (filter q xs)) (filter p (filter q xs))) f ∙ (ap (λ ys. x ∷ ys) rest ∙ sym (ap (λ b. cond b (x ∷ filter r xs) (filter r xs)) rx))
  twice_step x xs rest true false e f =
      let rx : r x ≡ false = sym (both x) ∙ (λ i. e i && f i) in
      ap (λ b. cond b (x ∷ filter p (filter q xs)) (filter p (filter q xs))) f ∙ (rest ∙ sym (ap (λ b. cond b (x ∷ filter r xs) (filter r xs)) rx))
  twice_step x xs rest false u e f =
      let rx : r x ≡ false = sym (both x) ∙ ap (λ b. b && p x) e in
      rest ∙ sym (ap (λ b. cond b (x ∷ filter r xs) (filter r xs)) rx)

  filter_twice : (xs : List X) → filter p (filter q xs) ≡ filter r xs
  filter_twice [] = refl
  filter_twice (x ∷ xs) = twice_step x xs (filter_twice xs) (q x) (p x) refl refl

-- all pass the test, or none
filter_none : {X : Type 0} (p : X → Bool) → ((x : X) → p x ≡ false) → (xs : List X) → filter p xs ≡ []
filter_none p never [] = refl
filter_none p never (x ∷ xs) = ap (λ b. cond b (x ∷ filter p xs) (filter p xs)) (never x) ∙ filter_none p never xs

filter_all : {X : Type 0} (p : X → Bool) (xs : List X) → ((x : X) → Contains xs x → p x ≡ true) → filter p xs ≡ xs
filter_all p [] every = refl
filter_all p (x ∷ xs) every =
    ap (λ b. cond b (x ∷ filter p xs) (filter p xs)) (every x (0, omega arith, refl)) ∙ ap (λ ys. x ∷ ys) (filter_all p xs (λ y h. every y (further x y xs h)))

isnt_lt : (x n : ℕ) → n ≤ x → nat_lt x n ≡ false
isnt_lt x n ge = by (nat_lt x n) refl
  where
    by : (t : Bool) → nat_lt x n ≡ t → t ≡ false
    by true e = absurd (omega (arith, lt_of x n e))
    by false e = refl

low_both : (k n : ℕ) → nat_lt k (n + 1) && nat_lt k n ≡ nat_lt k n
low_both k n = elim (cases_lt k n) [
  | inl lt ↦ (λ i. is_lt k (n + 1) (omega arith) i && nat_lt k n)
  | inr ge ↦ (λ i. nat_lt k (n + 1) && isnt_lt k n ge i) ∙ (and-false (nat_lt k (n + 1)) ∙ sym (isnt_lt k n ge))
]

high_both : (k n : ℕ) → nat_lt k (n + 1) && not (nat_lt k n) ≡ nat_eq k n
high_both k n = elim (cases_lt k n) [
  | inl lt ↦ (λ i. nat_lt k (n + 1) && not (is_lt k n lt i)) ∙ (and-false (nat_lt k (n + 1)) ∙ sym (not_equal k n (λ e. omega (arith, e))))
  | inr ge ↦ (λ i. nat_lt k (n + 1) && not (isnt_lt k n ge i)) ∙ elim (cases_lt k (n + 1)) [
    | inl lt ↦ (λ i. is_lt k (n + 1) lt i && true) ∙ sym (eq-eqb k n (omega arith))
    | inr more ↦ (λ i. isnt_lt k (n + 1) more i && true) ∙ sym (not_equal k n (λ e. omega (arith, e)))
  ]
]

number_up : (counts : List ℕ) (a b : FlowPair) → IsParameter counts b.rule b.param → number_of counts a < number_of counts b → flow_cmp a b ≡ Less
number_up counts a b of less = by (flow_cmp a b) refl
  where
    by : (o : Ordering) → flow_cmp a b ≡ o → o ≡ Less
    by Less e = refl
    by Equal e = absurd (omega (arith, less, ap (λ (x : FlowPair). number_of counts x) (flow_cmp-equal a b e)))
    by Greater e =
        let back : flow_cmp b a ≡ Less = flow_cmp_total.antisymm b a ∙ ap ordering_reverse e in
        elim (parts b a back) [
          | inl before ↦ absurd (omega (arith, less, number_less counts b.rule b.param a.rule a.param of before))
          | inr (same, le) ↦ absurd (omega (arith, less, le, ap (λ (r : ℕ). sum (take r counts)) same))
        ]

-- the pairs of parameters with lesser numbers
abbrev pub below_number : List ℕ → ℕ → List FlowPair → List FlowPair
below_number counts n flows = filter (λ f. nat_lt (number_of counts f) n) flows

module _ (counts : List ℕ) (flows : List FlowPair) (of : (f : FlowPair) → Contains flows f → IsParameter counts f.rule f.param) where
  pub below_none : (pairs : List FlowPair) → pairs ≡ [] → IsPermutation (below_number counts 0 flows) pairs
  below_none pairs none = subst (λ (ps : List FlowPair). IsPermutation ps pairs) (none ∙ sym (filter_none (λ f. nat_lt (number_of counts f) 0) (λ f. isnt_lt (number_of counts f) 0 (omega arith)) flows)) (IsPermutation-refl pairs)

  pub below_all : (n : ℕ) → ((f : FlowPair) → Contains flows f → number_of counts f < n) → below_number counts n flows ≡ flows
  below_all n all = filter_all (λ f. nat_lt (number_of counts f) n) flows (λ f h. is_lt (number_of counts f) n (all f h))

  module _ (n : ℕ) (row pairs new : List FlowPair) (is : row ≡ of_number counts n flows) (h : HasSorted row pairs new) (so_far : IsPermutation (below_number counts n flows) pairs) where
    abbrev below : FlowPair → Bool
    below f = nat_lt (number_of counts f) n

    pub below_more : IsPermutation (below_number counts (n + 1) flows) new
    below_more =
        let xs = below_number counts (n + 1) flows in
        let split : IsPermutation xs (filter below xs ++ filter (λ f. not (below f)) xs) = IsPermutation-filter_both below (λ f. not (below f)) (λ f. refl) xs in
        let front : filter below xs ≡ below_number counts n flows = filter_twice below (λ f. nat_lt (number_of counts f) (n + 1)) below (λ f. low_both (number_of counts f) n) flows in
        let back : filter (λ f. not (below f)) xs ≡ row = filter_twice (λ f. not (below f)) (λ f. nat_lt (number_of counts f) (n + 1)) (λ f. nat_eq (number_of counts f) n) (λ f. high_both (number_of counts f) n) flows ∙ sym is in
        subst (λ (ys : List FlowPair). IsPermutation xs ys) (sym h.is)
        (IsPermutation-trans xs (filter below xs ++ filter (λ f. not (below f)) xs) (pairs ++ h.added) split
        (IsPermutation-append (filter below xs) pairs (filter (λ f. not (below f)) xs) h.added (subst (λ (ys : List FlowPair). IsPermutation ys pairs) (sym front) so_far) (subst (λ (ys : List FlowPair). IsPermutation ys h.added) (sym back) h.permutation)))

    its_row : (f : FlowPair) → Contains h.added f → Contains flows f × (number_of counts f ≡ n)
    its_row f there =
        let r = filter_from (λ (g : FlowPair). nat_eq (number_of counts g) n) flows f (subst (λ (xs : List FlowPair). Contains xs f) is (Contains-permutation h.added row f (IsPermutation-sym row h.added h.permutation) there)) in
        (r.0, eqb-true (number_of counts f) n r.1)

    before : (f : FlowPair) → Contains pairs f → number_of counts f < n
    before f there =
        let r = filter_from below flows f (Contains-permutation pairs (below_number counts n flows) f (IsPermutation-sym (below_number counts n flows) pairs so_far) there) in
        lt_of (number_of counts f) n r.1

    pub ascends_more : AllPairs (λ a b. a ≢ b) row → IsAscending flow_cmp pairs → IsAscending flow_cmp new
    ascends_more row_once up = subst (λ (ys : List FlowPair). IsAscending flow_cmp ys) (sym h.is)
        (pairs_append (λ a b. flow_cmp a b ≡ Less) pairs h.added up (ascends flow_cmp flow_cmp_total flow_cmp-equal row h.added row_once h.permutation h.sorted)
        (λ a b in_front in_back. let r = its_row b in_back in number_up counts a b (of b r.0) (omega (arith, before a in_front, r.1))))
