-- Arguments, parameters and names that are added one by one.
use Rattle.std.proofs.Common.{◌≡◌, refl, sym, ◌∙◌, ap, subst, ℕ, zero, suc, ◌+◌, ◌-◌, ◌<◌, ◌≤◌, min, List, [], ◌∷◌, ◌++◌, length, get_or, inl, inr, arith}
use Rattle.std.proofs.Math.Dec.{ltb}
use Rattle.std.proofs.lemmas.Bool.{cases_lt, lt-ltb, le-ltb}
use Rattle.std.proofs.Math.ListN.{set}
use Rattle.hs_scheme.specs.declared.term.Head.{Head}
use Rattle.hs_scheme.specs.declared.term.Head.TheVariants.{Var}
use Rattle.hs_scheme.specs.Tree.{Tree, Trees, node, none, more, forest, children, join, forest-append, children-forest}
use Rattle.hs_scheme.specs.acceptance.Replacement.{applied}
use Rattle.hs_scheme.specs.declared.term.Rule.{Rule}
use Rattle.hs_scheme.specs.sorting.Sorting.{SortTree, arguments}
use Rattle.hs_scheme.specs.sorting.Lengthening.{missing, parameters, lengthened, lengthening}
use Rattle.hs_sorts.specs.Naming.{added_names, lengthened_params}
use Rattle.hs_sorts.specs.Inference.{head_arguments}
use Rattle.hs_sorts.specs.Finding.{TellsLong}

join_assoc : (us vs ws : Trees Head) → join (join us vs) ws ≡ join us (join vs ws)
join_assoc none vs ws = refl
join_assoc (more u us) vs ws = ap (more u) (join_assoc us vs ws)

join_none : (us : Trees Head) → join us none ≡ us
join_none none = refl
join_none (more u us) = ap (more u) (join_none us)

pub applied_none : (t : Tree Head) → t ≡ applied t none
applied_none (node h us) = ap (node h) (sym (join_none us))

applied_join : (t : Tree Head) (vs ws : Trees Head) → applied (applied t vs) ws ≡ applied t (join vs ws)
applied_join (node h us) vs ws = ap (node h) (join_assoc us vs ws)

abbrev parameter : ℕ → Tree Head
parameter j = node (Var j) none

parameters_more : (first d : ℕ) → join (parameters first d) (more (parameter (first + d)) none) ≡ parameters first (suc d)
parameters_more first zero = let e : first + 0 ≡ first = omega arith in ap (λ j. more (parameter j) none) e
parameters_more first (suc d) =
    let e : first + suc d ≡ (first + 1) + d = omega arith in
    ap (more (parameter first)) (ap (λ j. join (parameters (first + 1) d) (more (parameter j) none)) e ∙ parameters_more (first + 1) d)

-- one more argument
pub argument_added : (h : Head) (items longer : List (Tree Head)) (t : Tree Head) (first d : ℕ) → node h (forest items) ≡ applied t (parameters first d) → longer ≡ items ++ parameter (first + d) ∷ []
    → node h (forest longer) ≡ applied t (parameters first (d + 1))
argument_added h items longer t first d so_far pushed =
    let e : suc d ≡ d + 1 = omega arith in
    ap (λ us. node h (forest us)) pushed
    ∙ (ap (node h) (forest-append items (parameter (first + d) ∷ []))
    ∙ (ap (λ s. applied s (more (parameter (first + d)) none)) so_far
    ∙ (applied_join t (parameters first d) (more (parameter (first + d)) none)
    ∙ (ap (applied t) (parameters_more first d) ∙ ap (λ n. applied t (parameters first n)) e))))

-- the first n elements changed by the sorts
module _ {A : Type 0} (f : A → SortTree → A) where
  abbrev pub partly : ℕ → List A → List SortTree → List A
  partly zero xs ks = xs
  partly (suc n) [] ks = []
  partly (suc n) (x ∷ xs) [] = x ∷ xs
  partly (suc n) (x ∷ xs) (k ∷ ks) = f x k ∷ partly n xs ks

  pub partly_long : (n : ℕ) (xs : List A) (ks : List SortTree) → length (partly n xs ks) ≡ length xs
  partly_long zero xs ks = refl
  partly_long (suc n) [] ks = refl
  partly_long (suc n) (x ∷ xs) [] = refl
  partly_long (suc n) (x ∷ xs) (k ∷ ks) = ap suc (partly_long n xs ks)

  pub partly_at : (n : ℕ) (xs : List A) (ks : List SortTree) (d : A) → get_or (partly n xs ks) n d ≡ get_or xs n d
  partly_at zero xs ks d = refl
  partly_at (suc n) [] ks d = refl
  partly_at (suc n) (x ∷ xs) [] d = refl
  partly_at (suc n) (x ∷ xs) (k ∷ ks) d = partly_at n xs ks d

  one_more : (n : ℕ) (xs : List A) (ks : List SortTree) (x : A) (k : SortTree) → n < length xs → n < length ks → set (partly n xs ks) n (f (get_or xs n x) (get_or ks n k)) ≡ partly (suc n) xs ks
  one_more n [] ks x k h l = absurd (omega arith)
  one_more n (y ∷ xs) [] x k h l = absurd (omega arith)
  one_more zero (y ∷ xs) (m ∷ ks) x k h l = refl
  one_more (suc n) (y ∷ xs) (m ∷ ks) x k h l = ap (λ ys. f y m ∷ ys) (one_more n xs ks x k (omega arith) (omega arith))

  pub partly_more : (n : ℕ) (xs now : List A) (ks : List SortTree) (x y : A) (k : SortTree) → n < length xs → n < length ks → now ≡ partly n xs ks → x ≡ get_or now n x → k ≡ get_or ks n k → y ≡ f x k → set now n y ≡ partly (n + 1) xs ks
  partly_more n xs now ks x y k h l so_far at sort is =
      let e : suc n ≡ n + 1 = omega arith in
      let old : x ≡ get_or xs n x = at ∙ (ap (λ ys. get_or ys n x) so_far ∙ partly_at n xs ks x) in
      (λ i. set (so_far i) n ((is ∙ (λ j. f (old j) (sort j))) i)) ∙ (one_more n xs ks x k h l ∙ ap (λ m. partly m xs ks) e)

pub arguments_long : (u : Unit {0}) (args : List SortTree) (k : SortTree) → node u (forest args) ≡ k → length args ≡ length (arguments k)
arguments_long u args k e = ap length (sym (children-forest args)) ∙ ap (λ s. length (arguments s)) e

abbrev pub longer_rule : Rule → SortTree → Rule
longer_rule r k = lengthened (missing r.params k) r

pub all_rules : (n : ℕ) (rules : List Rule) (ks : List SortTree) → length ks ≤ n → partly longer_rule n rules ks ≡ lengthening rules ks
all_rules zero [] [] h = refl
all_rules (suc n) [] [] h = refl
all_rules zero (r ∷ rules) [] h = refl
all_rules (suc n) (r ∷ rules) [] h = refl
all_rules zero rules (k ∷ ks) h = absurd (omega arith)
all_rules (suc n) [] (k ∷ ks) h = refl
all_rules (suc n) (r ∷ rules) (k ∷ ks) h = ap (λ rs. longer_rule r k ∷ rs) (all_rules n rules ks (omega arith))

abbrev pub longer_names : List (List ℕ) → SortTree → List (List ℕ)
longer_names ns k = ns ++ added_names (missing (length ns) k)

pub all_names : (n : ℕ) (params : List (List (List ℕ))) (ks : List SortTree) → length ks ≤ n → partly longer_names n params ks ≡ lengthened_params params ks
all_names zero [] [] h = refl
all_names (suc n) [] [] h = refl
all_names zero (ns ∷ params) [] h = refl
all_names (suc n) (ns ∷ params) [] h = refl
all_names zero params (k ∷ ks) h = absurd (omega arith)
all_names (suc n) [] (k ∷ ks) h = refl
all_names (suc n) (ns ∷ params) (k ∷ ks) h = ap (λ rest. longer_names ns k ∷ rest) (all_names n params ks (omega arith))

pub same_before : {A : Type 0} (f : A → SortTree → A) (n : ℕ) (xs now : List A) (ks : List SortTree) (x : A) → now ≡ partly f n xs ks → x ≡ get_or now n x → x ≡ get_or xs n x
same_before f n xs now ks x so_far at = at ∙ (ap (λ ys. get_or ys n x) so_far ∙ partly_at f n xs ks x)

children-join : (us vs : Trees Head) → length (children (join us vs)) ≡ length (children us) + length (children vs)
children-join none vs = omega arith
children-join (more u us) vs = omega (arith, children-join us vs)

parameters-long : (first d : ℕ) → length (children (parameters first d)) ≡ d
parameters-long first zero = refl
parameters-long first (suc d) = ap suc (parameters-long (first + 1) d)

pub head_arguments_more : (t : Tree Head) (first d : ℕ) → head_arguments (applied t (parameters first d)) ≡ head_arguments t + d
head_arguments_more (node h us) first d = omega (arith, children-join us (parameters first d), parameters-long first d)

pub tells_by_arguments : (rule : Rule) (arity absent total : ℕ) → absent ≡ arity - rule.params → 0 < absent → arity ≤ 64 → total ≡ min (head_arguments rule.body + absent) 18446744073709551615 → TellsLong rule arity (ltb 64 total)
tells_by_arguments rule arity absent total d more_needed few sum =
    elim (cases_lt 64 total) [
      | inl over ↦ subst (TellsLong rule arity) (sym (lt-ltb 64 total over)) (λ k e.
          let same : missing rule.params k ≡ absent = omega (arith, e, d) in
          record { short = omega (arith, same, more_needed); long = inr (omega (arith, head_arguments_more rule.body rule.params (missing rule.params k), same, sum, over)) })
      | inr within ↦ subst (TellsLong rule arity) (sym (le-ltb 64 total within)) (λ k e l.
          let same : missing rule.params k ≡ absent = omega (arith, e, d) in
          elim l.long [
            | inl wide ↦ absurd (omega (arith, wide, same, d, few, more_needed))
            | inr over ↦ absurd (omega (arith, over, head_arguments_more rule.body rule.params (missing rule.params k), same, sum, within))
          ])
    ]
