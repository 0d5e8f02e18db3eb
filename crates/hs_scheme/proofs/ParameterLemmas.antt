-- The numbers of parameters, one rule after another, and which parameter has a number.
use Rattle.std.proofs.Common.{◌≡◌, sym, ◌∙◌, ap, subst, ℕ, zero, suc, ◌+◌, ◌*◌, ◌<◌, ◌≤◌, List, [], ◌∷◌, ◌++◌, length, get_or, take, sum, slice_index, All, arith, inl, inr}
use Rattle.std.proofs.Math.Nat.{eq-or-lt_of_le}
use Rattle.std.proofs.lemmas.Bool.{cases_lt}
use Rattle.std.proofs.lemmas.List.{get_or_at, get_or_append_left, get_or_past, get_or-map, length-map, take_more}
use Rattle.std.proofs.lemmas.List.Sums.{sum_by-cons, sum_by_more, sum_by_more_le, sum_by-le, sum-map}
use Rattle.hs_scheme.specs.declared.term.Rule.{Rule}
use Rattle.hs_scheme.specs.sorting.Parameters.{counts_of, IsParameter, parameter_of}

-- the next of the rules
module _ (rules : List Rule) (i : ℕ) (r : Rule) (lt : i < length rules) (is : r ≡ get_or rules i r) where
  counted : i < length (counts_of rules)
  counted = omega (arith, length-map rules (λ (q : Rule). q.params))

  its_count : get_or (counts_of rules) i 0 ≡ r.params
  its_count = get_or-map (λ (q : Rule). q.params) rules i r 0 lt ∙ ap (λ (q : Rule). q.params) (sym is)

  pub counts_more : take (i + 1) (counts_of rules) ≡ take i (counts_of rules) ++ r.params ∷ []
  counts_more = take_more (counts_of rules) i 0 counted ∙ ap (λ n. take i (counts_of rules) ++ n ∷ []) its_count

  pub sum_more : sum (take (i + 1) (counts_of rules)) ≡ sum (take i (counts_of rules)) + r.params
  sum_more = sum_by_more (λ x. x) (counts_of rules) i 0 counted ∙ ap (λ n. sum (take i (counts_of rules)) + n) its_count

  pub sum_within : sum (take i (counts_of rules)) + r.params ≤ sum (counts_of rules)
  sum_within = subst (λ n. sum (take i (counts_of rules)) + n ≤ sum (counts_of rules)) its_count (sum_by_more_le (λ x. x) (counts_of rules) i 0 counted)

pub sum_few : (rules : List Rule) (most : ℕ) → All (λ r. r.params ≤ most) rules → sum (counts_of rules) ≤ length rules * most
sum_few rules most few = subst (λ n. n ≤ length rules * most) (sym (sum-map (λ (r : Rule). r.params) rules)) (sum_by-le (λ (r : Rule). r.params) most rules few)

-- one number more in a row of numbers
at_most : (k i : ℕ) → k < i + 1 → k ≤ i
at_most k i h = omega arith

pub row_more : (xs new : List ℕ) (i x : ℕ) (P : ℕ → ℕ) → length xs ≡ i → new ≡ xs ++ x ∷ [] → x ≡ P i → ((k : ℕ) → k < i → slice_index xs k ≡ P k) → (k : ℕ) → k < i + 1 → slice_index new k ≡ P k
row_more xs new i x P long is last so_far k lt = ap (λ (ys : List ℕ). slice_index ys k) is ∙ elim (eq-or-lt_of_le (at_most k i lt)) [
  | inl same ↦ get_or_at xs x [] 0 k (long ∙ sym same) ∙ (last ∙ ap P (sym same))
  | inr less ↦ get_or_append_left xs (x ∷ []) 0 k (omega arith) ∙ so_far k less
]

-- a rule that has a parameter is there
pub there : (counts : List ℕ) (rule x : ℕ) → IsParameter counts rule x → rule < length counts
there counts rule x h = elim (cases_lt rule (length counts)) [
  | inl lt ↦ lt
  | inr ge ↦ absurd (omega (arith, get_or_past counts rule 0 ge))
]

-- its number is below those of the rules behind
pub number_within : (counts : List ℕ) (rule x : ℕ) → IsParameter counts rule x → parameter_of counts rule x < sum counts
number_within counts rule x h = omega (arith, sum_by_more_le (λ x. x) counts rule 0 (there counts rule x h))

sums_up : (counts : List ℕ) (rule other : ℕ) → rule < other → sum (take rule counts) + slice_index counts rule ≤ sum (take other counts)
sums_up [] zero zero lt = absurd (omega arith)
sums_up [] zero (suc other) lt = omega arith
sums_up [] (suc rule) zero lt = omega arith
sums_up [] (suc rule) (suc other) lt = omega arith
sums_up (n ∷ counts) rule zero lt = absurd (omega arith)
sums_up (n ∷ counts) zero (suc other) lt = omega (arith, sum_by-cons (λ x. x) n (take other counts))
sums_up (n ∷ counts) (suc rule) (suc other) lt = omega (arith, sum_by-cons (λ x. x) n (take rule counts), sum_by-cons (λ x. x) n (take other counts), sums_up counts rule other (omega arith))

pub number_less : (counts : List ℕ) (rule x other y : ℕ) → IsParameter counts rule x → rule < other → parameter_of counts rule x < parameter_of counts other y
number_less counts rule x other y h lt = omega (arith, sums_up counts rule other lt)

-- a number is that of one parameter only
pub number_once : (counts : List ℕ) (rule x other y : ℕ) → IsParameter counts rule x → IsParameter counts other y → parameter_of counts rule x ≡ parameter_of counts other y → (rule ≡ other) × (x ≡ y)
number_once counts rule x other y h k e = elim (cases_lt rule other) [
  | inl lt ↦ absurd (omega (arith, number_less counts rule x other y h lt))
  | inr ge ↦ elim (eq-or-lt_of_le ge) [
    | inl same ↦ (sym same, omega (arith, ap (λ (r : ℕ). sum (take r counts)) same))
    | inr gt ↦ absurd (omega (arith, number_less counts other y rule x k gt))
  ]
]
