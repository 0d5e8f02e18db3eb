-- The arguments of a point stand in its rule, and are fewer than 2^32.
use Rattle.std.proofs.Common.{◌≡◌, refl, sym, ◌∙◌, ap, subst, ℕ, zero, suc, ◌+◌, ◌^◌, ◌<◌, ◌≤◌, List, [], ◌∷◌, length, get_or, slice_get, slice_index, Some, arith, All, Contains, inl, inr}
use Rattle.std.proofs.lemmas.Option.{slice_get-get_or, same_Some}
use Rattle.std.proofs.lemmas.Bool.{cases_order}
use Rattle.std.proofs.lemmas.List.Elements.{All-contains}
use Rattle.std.specs.Option.{option_map_or}
use Rattle.hs_scheme.specs.declared.term.Head.{Head}
use Rattle.hs_scheme.specs.declared.term.Rule.{Rule}
use Rattle.hs_scheme.specs.Tree.{Tree, Trees, node, none, more}
use Rattle.hs_scheme.specs.flow.Points.{PointData, IsArgument, size, numbers, term_points, terms_points, rules_points, points_of}
use Rattle.hs_scheme.specs.sorting.Parameters.{counts_of}
use Rattle.hs_scheme.proofs.PointLemmas.{length-term_points}
use Rattle.hs_scheme.proofs.PlaceLemmas.{once}
use Rattle.hs_scheme.proofs.Lists.{here, later, place-append}
use Rattle.hs_table_laws.proofs.Places.{fewer}
use Rattle.hs_table_laws.proofs.Standing.{StandsFrom, stands_front, stands_back, stands_tail, stands_head}

module _ (points : List PointData) where
  abbrev InRule : ℕ → ℕ → Type 0
  InRule rule a = (of : PointData) × (slice_get points a ≡ Some of) × (of.rule ≡ rule)

  pub record IsWholeHead (rule : ℕ) (d : PointData) : Type 0 where
    pub in_rule : d.rule ≡ rule
    pub arguments : (j a : ℕ) → slice_get d.args j ≡ Some a → InRule rule a

  front_point : (rule n : ℕ) (t : Tree Head) → StandsFrom points n (term_points rule n t) → InRule rule n
  front_point rule n (node h ts) s =
      let d : PointData = record { rule = rule; head = h; args = numbers (n + 1) ts } in (d, stands_head points n d (terms_points rule (n + 1) ts) s, refl)

  row_points : (rule n : ℕ) (ts : Trees Head) → StandsFrom points n (terms_points rule n ts) → (j a : ℕ) → slice_get (numbers n ts) j ≡ Some a → InRule rule a
  row_points rule n none s j a e = absurd (cc)
  row_points rule n (more t ts) s zero a e = subst (InRule rule) (same_Some n a e) (front_point rule n t (stands_front points n (term_points rule n t) (terms_points rule (n + size t) ts) s))
  row_points rule n (more t ts) s (suc j) a e =
      row_points rule (n + size t) ts (stands_back points n (size t) (term_points rule n t) (terms_points rule (n + size t) ts) (length-term_points rule n t) s) j a e

  mutual
    whole_term : (rule n : ℕ) (t : Tree Head) → StandsFrom points n (term_points rule n t) → (i : ℕ) (d : PointData) → slice_get (term_points rule n t) i ≡ Some d → IsWholeHead rule d
    whole_term rule n (node h ts) s zero d e =
        let own : PointData = record { rule = rule; head = h; args = numbers (n + 1) ts } in
        subst (λ (q : PointData). IsWholeHead rule q) (same_Some own d e) (record { in_rule = refl; arguments = row_points rule (n + 1) ts (stands_tail points n own (terms_points rule (n + 1) ts) s) })
    whole_term rule n (node h ts) s (suc i) d e =
        let own : PointData = record { rule = rule; head = h; args = numbers (n + 1) ts } in
        whole_row rule (n + 1) ts (stands_tail points n own (terms_points rule (n + 1) ts) s) i d e

    whole_row : (rule n : ℕ) (ts : Trees Head) → StandsFrom points n (terms_points rule n ts) → (i : ℕ) (d : PointData) → slice_get (terms_points rule n ts) i ≡ Some d → IsWholeHead rule d
    whole_row rule n none s i d e = absurd (cc)
    whole_row rule n (more t ts) s i d e = elim (place-append (term_points rule n t) (terms_points rule (n + size t) ts) i d e) [
      | inl h ↦ whole_term rule n t (stands_front points n (term_points rule n t) (terms_points rule (n + size t) ts) s) i d h
      | inr b ↦ whole_row rule (n + size t) ts (stands_back points n (size t) (term_points rule n t) (terms_points rule (n + size t) ts) (length-term_points rule n t) s) b.place d b.at
    ]

  whole_rules : (rule n : ℕ) (rest : List Rule) → StandsFrom points n (rules_points rule n rest) → (i : ℕ) (d : PointData) → slice_get (rules_points rule n rest) i ≡ Some d → (f : ℕ) × IsWholeHead f d
  whole_rules rule n [] s i d e = absurd (cc)
  whole_rules rule n (r ∷ rest) s i d e = elim (place-append (term_points rule n r.body) (rules_points (rule + 1) (n + size r.body) rest) i d e) [
    | inl h ↦ (rule, whole_term rule n r.body (stands_front points n (term_points rule n r.body) (rules_points (rule + 1) (n + size r.body) rest) s) i d h)
    | inr b ↦ whole_rules (rule + 1) (n + size r.body) rest
        (stands_back points n (size r.body) (term_points rule n r.body) (rules_points (rule + 1) (n + size r.body) rest) (length-term_points rule n r.body) s) b.place d b.at
  ]

-- arguments are in their point's rule
pub same_rule : (rules : List Rule) (p : ℕ) (d : PointData) → slice_get (points_of rules).points p ≡ Some d → (j a : ℕ) → slice_get d.args j ≡ Some a → (of : PointData) × (slice_get (points_of rules).points a ≡ Some of) × (of.rule ≡ d.rule)
same_rule rules p d at j a e =
    let all = rules_points 0 0 rules in
    let w = whole_rules all 0 0 rules (record { at = λ i y k. let z : 0 + i ≡ i = omega arith in ap (λ m. slice_get all m) z ∙ k }) p d at in
    let r = w.1.arguments j a e in
    (r.0, r.1, r.2 ∙ sym w.1.in_rule)

-- the numbers below n
abbrev upto : ℕ → List ℕ
upto zero = []
upto (suc n) = n ∷ upto n

length-upto : (n : ℕ) → length (upto n) ≡ n
length-upto zero = refl
length-upto (suc n) = ap suc (length-upto n)

in_upto : (n k : ℕ) → k < n → Contains (upto n) k
in_upto zero k lt = absurd (omega arith)
in_upto (suc n) k lt = elim (cases_order k n) [
  | inl same ↦ subst (λ (m : ℕ). Contains (n ∷ upto n) m) (sym same) (here n (upto n))
  | inr (inl less) ↦ later n k (upto n) (in_upto n k less)
  | inr (inr more_than) ↦ absurd (omega arith)
]

-- a point has few arguments, since each point is one only once
pub few_arguments : (rules : List Rule) (q : ℕ) (args : List ℕ) → length (points_of rules).points ≤ 500000 → ((i a : ℕ) → slice_get args i ≡ Some a → IsArgument (points_of rules) q i a) → All (λ a. a < length (points_of rules).points) args → length args < 2 ^ 32
few_arguments rules q args few each within =
    let n = length (points_of rules).points in
    let most = fewer args (upto n) (λ i j d lt below e.
    let x = slice_get-get_or args i d (omega arith) in
    let y = slice_get-get_or args j d below ∙ ap (λ (a : ℕ). Some a) (sym e) in
    let same = once rules (get_or args i d) q i q j (each i (get_or args i d) x) (each j (get_or args i d) y) in
    omega (arith, same.1, lt)) (λ a c. in_upto n a (All-contains (λ b. b < n) args a within c)) in
    omega (arith, most, length-upto n, few)

-- the parameters of a rule
pub params_are : (rules : List Rule) (f : ℕ) → slice_index (counts_of rules) f ≡ option_map_or (λ (r : Rule). r.params) (slice_get rules f) 0
params_are [] f = refl
params_are (r ∷ rules) zero = refl
params_are (r ∷ rules) (suc f) = params_are rules f
