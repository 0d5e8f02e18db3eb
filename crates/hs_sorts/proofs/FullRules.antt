-- The lengthened rules of a scheme are rules of a scheme, and have its sorts.
use Rattle.std.proofs.Common.{◌≡◌, refl, sym, ◌∙◌, ap, subst, ℕ, zero, suc, ◌+◌, ◌<◌, ◌≤◌, List, [], ◌∷◌, ◌++◌, length, slice_get, get_or, map, Option, Some, inl, inr, arith, length-append}
use Rattle.std.proofs.lemmas.Bool.{cases_lt}
use Rattle.std.proofs.lemmas.Option.{slice_get_within, slice_get-get_or, same_Some}
use Rattle.hs_scheme.specs.declared.term.Head.{Head}
use Rattle.hs_scheme.specs.declared.term.Head.TheVariants.{Var, Nt, Tm}
use Rattle.hs_scheme.specs.declared.term.Rule.{Rule}
use Rattle.hs_scheme.specs.Tree.{Tree, Trees, node, none, more, children, join}
use Rattle.hs_scheme.specs.acceptance.Replacement.{applied}
use Rattle.hs_scheme.specs.Scheme.{HeadInRange, TermInRange, TermsInRange, AreRules}
use Rattle.hs_scheme.specs.sorting.Sorting.{SortTree, arrow, arrows, without, behind, arguments, heads, HasSort, Applied, IsSorting}
use Rattle.hs_scheme.specs.sorting.Sorted.{sort_at, sorts_of, known, AreFull}
use Rattle.hs_scheme.specs.sorting.Lengthening.{missing, parameters, lengthened, lengthening}
use Rattle.hs_scheme.proofs.Sortings.{length-arrow, length-lengthening}
use Rattle.hs_sorts.specs.Naming.{added_name, added_names, lengthened_params}
use Rattle.hs_sorts.specs.Inference.{head_arguments, IsTooLong}
use Rattle.hs_sorts.specs.Least.{AreLeastSorts}
use Rattle.hs_sorts.proofs.Lengthenings.{head_arguments_more}
use Rattle.hs_sorts.proofs.Solutions.{All_at}

pub lengthened_get : (rules : List Rule) (ks : List SortTree) (f : ℕ) (r : Rule) → length ks ≡ length rules → slice_get rules f ≡ Some r
    → slice_get (lengthening rules ks) f ≡ Some (lengthened (missing r.params (sort_at ks f)) r)
lengthened_get [] ks f r e at = absurd (cc)
lengthened_get (q ∷ rules) [] f r e at = absurd (omega (arith, e))
lengthened_get (q ∷ rules) (k ∷ ks) zero r e at = let same : q ≡ r = cc in ap (λ x. Some (lengthened (missing x.params k) x)) same
lengthened_get (q ∷ rules) (k ∷ ks) (suc f) r e at = lengthened_get rules ks f r (omega (arith, e)) at

-- a lengthened rule, and the one that it was
record Was (rules : List Rule) (ks : List SortTree) (f : ℕ) (long : Rule) : Type 0 where
  rule : Rule
  at : slice_get rules f ≡ Some rule
  is : lengthened (missing rule.params (sort_at ks f)) rule ≡ long

was : (rules : List Rule) (ks : List SortTree) (f : ℕ) (long : Rule) → length ks ≡ length rules → slice_get (lengthening rules ks) f ≡ Some long → Was rules ks f long
was rules ks f long e at =
    let below : f < length rules = omega (arith, slice_get_within (lengthening rules ks) f long at, length-lengthening rules ks) in
    let r = get_or rules f long in
    let there = slice_get-get_or rules f long below in
    record { rule = r; at = there; is = same_Some _ _ (sym (lengthened_get rules ks f r e there) ∙ at) }

-- a sort is its first arguments before what is left
whole : (n : ℕ) (u : Unit {0}) (ks : Trees (Unit {0})) → n ≤ length (children ks) → node u ks ≡ arrows n (λ j. sort_at (children ks) j) (node u (without n ks))
whole zero u ks h = refl
whole (suc n) u none h = absurd (omega arith)
whole (suc n) u (more k ks) h = ap (arrow k) (whole n u ks (omega arith))

rest_whole : (n d : ℕ) (u : Unit {0}) (ks : Trees (Unit {0})) → n + d ≤ length (children ks) → node u (without n ks) ≡ arrows d (λ j. sort_at (children ks) (n + j)) (node u (without (n + d) ks))
rest_whole zero d u ks h =
    let e : (j : ℕ) → j ≡ 0 + j = λ j. omega arith in
    whole d u ks (omega (arith, h)) ∙ (λ i. arrows d (λ j. sort_at (children ks) (e j i)) (node u (without (e d i) ks)))
rest_whole (suc n) d u none h = absurd (omega (arith, h))
rest_whole (suc n) d u (more k ks) h =
    let e : (j : ℕ) → suc (n + j) ≡ suc n + j = λ j. omega arith in
    rest_whole n d u ks (omega (arith, h)) ∙ (λ i. arrows d (λ j. sort_at (k ∷ children ks) (e j i)) (node u (without (e d i) (more k ks))))

whole_sort : (n : ℕ) (k : SortTree) → n ≤ length (arguments k) → k ≡ arrows n (λ j. sort_at (arguments k) j) (behind n k)
whole_sort n (node u ks) h = whole n u ks h

rest_sort : (n d : ℕ) (k : SortTree) → n + d ≤ length (arguments k) → behind n k ≡ arrows d (λ j. sort_at (arguments k) (n + j)) (behind (n + d) k)
rest_sort n d (node u ks) h = rest_whole n d u ks h

many : (n : ℕ) (args : ℕ → SortTree) (k : SortTree) → n ≤ length (arguments (arrows n args k))
many zero args k = omega arith
many (suc n) args k = omega (arith, many n (λ j. args (suc j)) k, length-arrow (args 0) (arrows n (λ j. args (suc j)) k))

-- a term takes parameters of the sorts that it asks for
module _ (e : Head → SortTree) where
  join_applied : (us vs : Trees Head) (f m k : SortTree) → Applied e us f m → Applied e vs m k → Applied e (join us vs) f k
  join_applied none vs f m k p q = subst (λ (s : SortTree). Applied e vs s k) (sym p) q
  join_applied (more u us) vs f m k (a, b, is, of, rest) q = (a, b, is, of, join_applied us vs b m k rest q)

  parameters_applied : (first d : ℕ) (p : ℕ → SortTree) (k : SortTree) → ((j : ℕ) → e (Var (first + j)) ≡ p j) → Applied e (parameters first d) (arrows d p k) k
  parameters_applied first zero p k h = refl
  parameters_applied first (suc d) p k h =
      let here : first ≡ first + 0 = omega arith in
      let next : (j : ℕ) → (first + 1) + j ≡ first + suc j = λ j. omega arith in
      (p 0, arrows d (λ j. p (suc j)) k, refl, ap (λ j. e (Var j)) here ∙ h 0, parameters_applied (first + 1) d (λ j. p (suc j)) k (λ j. ap (λ i. e (Var i)) (next j) ∙ h (suc j)))

  has_parameters : (t : Tree Head) (first d : ℕ) (p : ℕ → SortTree) (k : SortTree) → ((j : ℕ) → e (Var (first + j)) ≡ p j) → HasSort e t (arrows d p k) → HasSort e (applied t (parameters first d)) k
  has_parameters (node h us) first d p k same has = join_applied us (parameters first d) (e h) (arrows d p k) k has (parameters_applied first d p k same)

-- heads stay in range where there are more parameters
module _ (n m rules terminals : ℕ) (le : n ≤ m) where
  head_wider : (h : Head) → HeadInRange n rules terminals h → HeadInRange m rules terminals h
  head_wider (Var j) r = omega (arith, r, le)
  head_wider (Nt f) r = r
  head_wider (Tm a) r = r

  mutual
    term_wider : (t : Tree Head) → TermInRange n rules terminals t → TermInRange m rules terminals t
    term_wider (node h ts) (r, few, rs) = (head_wider h r, few, terms_wider ts rs)

    terms_wider : (ts : Trees Head) → TermsInRange n rules terminals ts → TermsInRange m rules terminals ts
    terms_wider none r = tt
    terms_wider (more t ts) (r, rs) = (term_wider t r, terms_wider ts rs)

module _ (n rules terminals : ℕ) where
  join_in_range : (us vs : Trees Head) → TermsInRange n rules terminals us → TermsInRange n rules terminals vs → TermsInRange n rules terminals (join us vs)
  join_in_range none vs r s = s
  join_in_range (more u us) vs (r, rs) s = (r, join_in_range us vs rs s)

  parameters_in_range : (first d : ℕ) → first + d ≤ n → TermsInRange n rules terminals (parameters first d)
  parameters_in_range first zero h = tt
  parameters_in_range first (suc d) h = ((omega arith, omega arith, tt), parameters_in_range (first + 1) d (omega arith))

  applied_in_range : (t : Tree Head) (first d : ℕ) → first + d ≤ n → head_arguments t + d ≤ 64 → TermInRange n rules terminals t → TermInRange n rules terminals (applied t (parameters first d))
  applied_in_range (node h us) first d l few (r, old, rs) = (r, omega (arith, few, head_arguments_more (node h us) first d), join_in_range us (parameters first d) rs (parameters_in_range first d l))

few_at_head : (n rules terminals : ℕ) (t : Tree Head) → TermInRange n rules terminals t → head_arguments t ≤ 64
few_at_head n rules terminals (node h us) (r, few, rs) = few

-- a rule that isn't too long, lengthened, is within the limits
fits : (rule : Rule) (k : SortTree) → (IsTooLong rule k → ⊥) → rule.params ≤ 64 → head_arguments rule.body ≤ 64
    → (rule.params + missing rule.params k ≤ 64) × (head_arguments rule.body + missing rule.params k ≤ 64)
fits rule k not_long narrow few =
    elim (cases_lt 0 (missing rule.params k)) [
      | inr full ↦ (omega (arith, full, narrow), omega (arith, full, few))
      | inl short ↦ elim (cases_lt 64 (rule.params + missing rule.params k)) [
        | inl wide ↦ absurd (not_long (record { short = short; long = inl wide }))
        | inr within ↦ elim (cases_lt 64 (head_arguments rule.body + missing rule.params k)) [
          | inl over ↦ absurd (not_long (record { short = short; long = inr (omega (arith, over, head_arguments_more rule.body rule.params (missing rule.params k))) }))
          | inr under ↦ (within, under)
        ]
      ]
    ]

module _ (rules : List Rule) (ranks : List (Option ℕ)) (sorts : List SortTree) (arities : List ℕ) (l : AreLeastSorts rules ranks sorts arities) where
  abbrev longer : List Rule
  longer = lengthening rules sorts

  sort_many : (f : ℕ) (rule : Rule) → slice_get rules f ≡ Some rule → rule.params ≤ length (arguments (sort_at sorts f))
  sort_many f rule at =
      omega (arith, ap (λ k. length (arguments k)) (l.sorting.nonterminals f rule at), many rule.params ((sorts_of sorts arities).parameter f) (behind rule.params (sort_at sorts f)))

  pub are_full : AreFull longer sorts
  are_full f long at =
      let w = was rules sorts f long l.each_rule at in
      omega (arith, sort_many f w.rule w.at, ap (λ (r : Rule). r.params) w.is)

  long_body : (f : ℕ) (rule : Rule) → slice_get rules f ≡ Some rule
      → HasSort (heads (sorts_of sorts arities) f) (lengthened (missing rule.params (sort_at sorts f)) rule).body (behind (rule.params + missing rule.params (sort_at sorts f)) (sort_at sorts f))
  long_body f rule at =
      let k = sort_at sorts f in
      let d = missing rule.params k in
      has_parameters (heads (sorts_of sorts arities) f) rule.body rule.params d (λ j. sort_at (arguments k) (rule.params + j)) (behind (rule.params + d) k) (λ j. refl)
      (subst (HasSort (heads (sorts_of sorts arities) f) rule.body) (rest_sort rule.params d k (omega (arith, sort_many f rule at)))
      (l.sorting.bodies f rule (slice_get_within rules f rule at) at))

  pub long_sorting : IsSorting longer (known arities) (length longer) (sorts_of sorts arities)
  long_sorting = record {
    nonterminals = λ f long at. whole_sort long.params (sort_at sorts f) (omega (arith, are_full f long at));
    bodies = λ f long below at.
        let w = was rules sorts f long l.each_rule at in
        subst (λ (r : Rule). HasSort (heads (sorts_of sorts arities) f) r.body (behind r.params (sort_at sorts f))) w.is (long_body f w.rule w.at);
    start = l.sorting.start;
    terminals = l.sorting.terminals;
  }

  pub as_many : length sorts ≡ length longer
  as_many = l.each_rule ∙ sym (length-lengthening rules sorts)

  module _ (are : AreRules rules (length ranks)) where
    rule_fits : (f : ℕ) (rule : Rule) → slice_get rules f ≡ Some rule
        → (rule.params + missing rule.params (sort_at sorts f) ≤ 64) × (head_arguments rule.body + missing rule.params (sort_at sorts f) ≤ 64)
    rule_fits f rule at =
        fits rule (sort_at sorts f) (l.none_too_long f rule at) (All_at (λ (r : Rule). r.params ≤ 64) rules f rule are.few_params at)
        (few_at_head rule.params (length rules) (length ranks) rule.body (All_at (λ r. TermInRange r.params (length rules) (length ranks) r.body) rules f rule are.bodies at))

    long_in_range : (f : ℕ) (rule : Rule) → slice_get rules f ≡ Some rule
        → TermInRange (rule.params + missing rule.params (sort_at sorts f)) (length longer) (length arities) (lengthened (missing rule.params (sort_at sorts f)) rule).body
    long_in_range f rule at =
        let d = missing rule.params (sort_at sorts f) in
        let was_in_range = All_at (λ r. TermInRange r.params (length rules) (length ranks) r.body) rules f rule are.bodies at in
        subst (λ (n : ℕ). TermInRange (rule.params + d) n (length arities) (applied rule.body (parameters rule.params d))) (sym (length-lengthening rules sorts))
        (subst (λ (n : ℕ). TermInRange (rule.params + d) (length rules) n (applied rule.body (parameters rule.params d))) (sym l.each_terminal)
        (applied_in_range (rule.params + d) (length rules) (length ranks) rule.body rule.params d (omega arith) (rule_fits f rule at).1
        (term_wider rule.params (rule.params + d) (length rules) (length ranks) (omega arith) rule.body was_in_range)))

    pub are_long_rules : AreRules longer (length arities)
    are_long_rules = record {
      start =
          let r = are.start.0 in
          let none_missing : missing r.params (sort_at sorts 0) ≡ 0 = omega (arith, ap (λ k. length (arguments k)) l.sorting.start) in
          (lengthened (missing r.params (sort_at sorts 0)) r, (lengthened_get rules sorts 0 r l.each_rule are.start.1.0, omega (arith, none_missing, are.start.1.1)));
      bodies = λ f d below.
          let at = slice_get-get_or longer f d below in
          let w = was rules sorts f (get_or longer f d) l.each_rule at in
          subst (λ (r : Rule). TermInRange r.params (length longer) (length arities) r.body) w.is (long_in_range f w.rule w.at);
      few_rules = omega (arith, length-lengthening rules sorts, are.few_rules);
      few_params = λ f d below.
          let at = slice_get-get_or longer f d below in
          let w = was rules sorts f (get_or longer f d) l.each_rule at in
          subst (λ (r : Rule). r.params ≤ 64) w.is (rule_fits f w.rule w.at).0;
    }

added_long : (d : ℕ) → length (added_names d) ≡ d
added_long zero = refl
added_long (suc d) = omega (arith, length-append (added_names d) (added_name (suc d) ∷ []), added_long d)

-- one name for each parameter of the lengthened rules
pub long_params : (params : List (List (List ℕ))) (rules : List Rule) (ks : List SortTree) → map (λ ns. length ns) params ≡ map (λ r. r.params) rules
    → map (λ ns. length ns) (lengthened_params params ks) ≡ map (λ r. r.params) (lengthening rules ks)
long_params [] [] ks e = refl
long_params [] (r ∷ rules) ks e = absurd (cc)
long_params (ns ∷ params) [] ks e = absurd (cc)
long_params (ns ∷ params) (r ∷ rules) [] e = e
long_params (ns ∷ params) (r ∷ rules) (k ∷ ks) e =
    let here : length ns ≡ r.params = cc in
    let rest : map (λ ns. length ns) params ≡ map (λ r. r.params) rules = cc in
    let sum : length (ns ++ added_names (missing (length ns) k)) ≡ r.params + missing r.params k =
    omega (arith, length-append ns (added_names (missing (length ns) k)), added_long (missing (length ns) k), here) in
    (λ i. sum i ∷ long_params params rules ks rest i)
