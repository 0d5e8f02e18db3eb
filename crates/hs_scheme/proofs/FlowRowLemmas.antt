-- The pairs of one parameter in a flow stand together, between two starts.
use Rattle.std.proofs.Common.{◌≡◌, refl, sym, ◌∙◌, ap, subst, ℕ, ◌+◌, ◌-◌, ◌<◌, ◌≤◌, ◌⊎◌, inl, inr, max, Bool, true, false, nat_eq, List, [], length, get_or, take, drop, filter, sum, slice_index, arith}
use Rattle.std.proofs.Math.Nat.{eq-or-lt_of_le}
use Rattle.std.proofs.lemmas.Bool.{cases_lt, eqb-true, eq-eqb, and_parts}
use Rattle.std.proofs.lemmas.Bool.Decides.{nat_tests}
use Rattle.std.proofs.lemmas.List.{get_or_default}
use Rattle.std.specs.declared.cmp.Ordering.TheVariants.{Less}
use Rattle.hs_scheme.specs.declared.flow.FlowPair.{FlowPair}
use Rattle.hs_scheme.specs.sorting.Parameters.{IsParameter, parameter_of}
use Rattle.hs_scheme.specs.flow.Flow.{flow_cmp, IsAscending}
use Rattle.hs_scheme.specs.flow.FlowRows.{number_of, AreOfParameters, StartsSoFar, AreStarts}
use Rattle.hs_scheme.proofs.ParameterLemmas.{number_less, number_once}
use Rattle.hs_scheme.proofs.FlowLemmas.{filter-middle, is_of}

-- an earlier pair's parameter comes no later
pub parts : (a b : FlowPair) → flow_cmp a b ≡ Less → (a.rule < b.rule) ⊎ ((a.rule ≡ b.rule) × (a.param ≤ b.param))
parts a b less = elim (cases_lt a.rule b.rule) [
  | inl lt ↦ inl lt
  | inr ge ↦ inr (same a b less ge, up a b less ge)
]
  where
    same : (a b : FlowPair) → flow_cmp a b ≡ Less → b.rule ≤ a.rule → a.rule ≡ b.rule
    same a b less ge = grind (arith, nat_tests)

    up : (a b : FlowPair) → flow_cmp a b ≡ Less → b.rule ≤ a.rule → a.param ≤ b.param
    up a b less ge = grind (arith, nat_tests)

module _ (counts : List ℕ) (pairs : List FlowPair) (of : AreOfParameters counts pairs) where
  module _ (up : IsAscending flow_cmp pairs) where
    rises : (i j : ℕ) (d : FlowPair) → i ≤ j → j < length pairs → number_of counts (get_or pairs i d) ≤ number_of counts (get_or pairs j d)
    rises i j d le lt = elim (eq-or-lt_of_le le) [
      | inl same ↦ subst (λ (k : ℕ). number_of counts (get_or pairs i d) ≤ number_of counts (get_or pairs k d)) same (omega arith)
      | inr less ↦ elim (parts (get_or pairs i d) (get_or pairs j d) (up i j d less lt)) [
        | inl before ↦ omega (arith, number_less counts (get_or pairs i d).rule (get_or pairs i d).param (get_or pairs j d).rule (get_or pairs j d).param (of i d (omega arith)) before)
        | inr (same, le) ↦ omega (arith, ap (λ (r : ℕ). sum (take r counts)) same)
      ]
    ]

    -- the starts are filled up to the next pair's number
    module _ (taken count : ℕ) (old new : List ℕ) (kept : (k : ℕ) → k < length old → slice_index new k ≡ slice_index old k) (added : (k : ℕ) → length old ≤ k → k < length new → slice_index new k ≡ taken)
        (long : length new ≡ max (length old) count) (was : StartsSoFar counts pairs taken old) where
      low : (k i : ℕ) (d : FlowPair) → k < length new → i < slice_index new k → number_of counts (get_or pairs i d) < k
      low k i d lt h = elim (cases_lt k (length old)) [
        | inl there ↦ was.low k i d there (omega (arith, kept k there))
        | inr behind ↦ omega (arith, was.done i d (omega (arith, added k behind lt)))
      ]

      within : (k : ℕ) → k < length new → slice_index new k ≤ taken
      within k lt = elim (cases_lt k (length old)) [
        | inl there ↦ omega (arith, kept k there, was.within k there)
        | inr behind ↦ omega (arith, added k behind lt)
      ]

      high : ((k i : ℕ) (d : FlowPair) → k < count → taken ≤ i → i < length pairs → k ≤ number_of counts (get_or pairs i d)) → (k i : ℕ) (d : FlowPair) → k < length new → slice_index new k ≤ i → i < length pairs
          → k ≤ number_of counts (get_or pairs i d)
      high later k i d lt h l = elim (cases_lt k (length old)) [
        | inl there ↦ was.high k i d there (omega (arith, kept k there)) l
        | inr behind ↦ later k i d (omega arith) (omega (arith, added k behind lt)) l
      ]

      pub pair_taken : (p : FlowPair) → taken < length pairs → p ≡ get_or pairs taken p → count ≡ number_of counts p + 1 → number_of counts p < sum counts → StartsSoFar counts pairs (taken + 1) new
      pair_taken p l is counted few = record {
        within = λ k lt. omega (arith, within k lt);
        low = low;
        high = high (λ k i d lt ge less. omega (arith, rises taken i d ge less, its_number d));
        done = λ i d lt. elim (cases_lt i taken) [
          | inl before ↦ omega (arith, was.done i d before)
          | inr ge ↦ let e : i ≡ taken = omega arith in omega (arith, ap (λ (k : ℕ). number_of counts (get_or pairs k d)) e, its_number d)
        ];
        few = omega (arith, was.few);
      }
        where
          its_number : (d : FlowPair) → number_of counts (get_or pairs taken d) ≡ number_of counts p
          its_number d = ap (number_of counts) (get_or_default pairs taken d p l ∙ sym is)

      pub all_taken : taken ≡ length pairs → count ≡ sum counts + 1 → AreStarts counts pairs new
      all_taken end counted = record {
        parameters = of;
        long = omega (arith, was.few);
        parted = subst (λ (n : ℕ). StartsSoFar counts pairs n new) end (record {
          within = within;
          low = low;
          high = high (λ k i d lt ge l. absurd (omega arith));
          done = λ i d lt. omega (arith, was.done i d lt);
          few = omega (arith, was.few);
        });
      }

-- the pair is of the parameter exactly where its parameter's number is the parameter's
module _ (counts : List ℕ) (rule param : ℕ) (here : IsParameter counts rule param) (p : FlowPair) (of : IsParameter counts p.rule p.param) where
  pub of_number : number_of counts p ≡ parameter_of counts rule param → is_of rule param p ≡ true
  of_number e = let s = number_once counts p.rule p.param rule param of here e in rw (eq-eqb p.rule rule s.0, eq-eqb p.param param s.1)

  pub not_of : (number_of counts p ≡ parameter_of counts rule param → ⊥) → is_of rule param p ≡ false
  not_of apart = go (is_of rule param p) refl
    where
      go : (b : Bool) → is_of rule param p ≡ b → b ≡ false
      go false e = refl
      go true e = let s = and_parts (nat_eq p.rule rule) (nat_eq p.param param) e in
          absurd (apart (λ i. parameter_of counts (eqb-true p.rule rule s.0 i) (eqb-true p.param param s.1 i)))

module _ (counts : List ℕ) (pairs : List FlowPair) (starts : List ℕ) (are : AreStarts counts pairs starts) (rule param : ℕ) (here : IsParameter counts rule param) (n : ℕ) (is : n ≡ parameter_of counts rule param) (within : n < sum counts) where
  some_pair : FlowPair
  some_pair = record { rule = 0; param = 0; point = 0 }

  pub in_order : slice_index starts n ≤ slice_index starts (n + 1)
  in_order = elim (cases_lt (slice_index starts (n + 1)) (slice_index starts n)) [
    | inl less ↦
        let to = slice_index starts (n + 1) in
        absurd (omega (
          arith,
          are.parted.low n to some_pair (omega (arith, are.long)) less,
          are.parted.high (n + 1) to some_pair (omega (arith, are.long)) (omega arith) (omega (arith, are.parted.within n (omega (arith, are.long)))),
        ))
    | inr le ↦ le
  ]

  pub in_pairs : slice_index starts (n + 1) ≤ length pairs
  in_pairs = are.parted.within (n + 1) (omega (arith, are.long))

  pub between : take (slice_index starts (n + 1) - slice_index starts n) (drop (slice_index starts n) pairs) ≡ filter (is_of rule param) pairs
  between = filter-middle (is_of rule param) pairs (slice_index starts n) (slice_index starts (n + 1) - slice_index starts n)
      (λ i d h l. not_of counts rule param here (get_or pairs i d) (are.parameters i d l) (λ e. omega (arith, are.parted.low n i d (omega (arith, are.long)) h)))
      (λ i d h k l. of_number counts rule param here (get_or pairs i d) (are.parameters i d l)
      (omega (arith, in_order, are.parted.high n i d (omega (arith, are.long)) h l, are.parted.low (n + 1) i d (omega (arith, are.long)) (omega (arith, in_order)))))
      (λ i d h l. not_of counts rule param here (get_or pairs i d) (are.parameters i d l) (λ e. omega (arith, in_order, are.parted.high (n + 1) i d (omega (arith, are.long)) (omega (arith, in_order)) l)))

pub none_of : (counts : List ℕ) (pairs : List FlowPair) (rule param : ℕ) → AreOfParameters counts pairs → (IsParameter counts rule param → ⊥) → [] ≡ filter (is_of rule param) pairs
none_of counts pairs rule param of nowhere = filter-middle (is_of rule param) pairs 0 0 (λ i d h l. absurd (omega arith)) (λ i d h k l. absurd (omega arith))
    (λ i d h l. apart (get_or pairs i d) (of i d l))
  where
    apart : (p : FlowPair) → IsParameter counts p.rule p.param → is_of rule param p ≡ false
    apart p at = go (is_of rule param p) refl
      where
        go : (b : Bool) → is_of rule param p ≡ b → b ≡ false
        go false e = refl
        go true e = let s = and_parts (nat_eq p.rule rule) (nat_eq p.param param) e in
            absurd (nowhere (subst (λ (x : ℕ). IsParameter counts rule x) (eqb-true p.param param s.1) (subst (λ (r : ℕ). IsParameter counts r p.param) (eqb-true p.rule rule s.0) at)))
