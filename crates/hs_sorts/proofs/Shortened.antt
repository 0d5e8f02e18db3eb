-- A sorting of the lengthened rules is one of the rules as they were, so the least sorting of these is the least one of those, too.
use Rattle.std.proofs.Common.{◌≡◌, refl, sym, ◌∙◌, ap, subst, ℕ, zero, suc, ◌+◌, ◌≤◌, List, length, slice_get, Option, Some, arith}
use Rattle.std.proofs.lemmas.Option.{slice_get_within}
use Rattle.hs_scheme.specs.declared.term.Head.{Head}
use Rattle.hs_scheme.specs.declared.term.Head.TheVariants.{Var}
use Rattle.hs_scheme.specs.declared.term.Rule.{Rule}
use Rattle.hs_scheme.specs.Tree.{Tree, Trees, node, none, more, children, join}
use Rattle.hs_scheme.specs.acceptance.Replacement.{applied}
use Rattle.hs_scheme.specs.sorting.Sorting.{SortTree, arrow, arrows, behind, arguments, size, sizes, Sorts, heads, HasSort, Applied, IsSorting, IsLeastSorting}
use Rattle.hs_scheme.specs.sorting.Sorted.{SortedData, IsSorted, sort_at, sorts_of, known}
use Rattle.hs_scheme.specs.sorting.Lengthening.{missing, parameters, lengthened, lengthening}
use Rattle.hs_scheme.specs.sorting.Unsorted.{UnsortedData}
use Rattle.hs_scheme.proofs.Sortings.{meet, meets, common_sorting, length-lengthening}
use Rattle.hs_sorts.specs.Inference.{IsInferred}
use Rattle.hs_sorts.proofs.Arrows.{argument_is}
use Rattle.hs_sorts.proofs.FullRules.{lengthened_get}

arrows-split : (n d : ℕ) (p : ℕ → SortTree) (k : SortTree) → arrows (n + d) p k ≡ arrows n p (arrows d (λ j. p (n + j)) k)
arrows-split zero d p k =
    let e : (j : ℕ) → 0 + j ≡ j = λ j. omega arith in
    λ i. arrows (e d i) (λ j. p (sym (e j) i)) k
arrows-split (suc n) d p k =
    let e : (j : ℕ) → suc n + j ≡ suc (n + j) = λ j. omega arith in
    ap (λ m. arrows m p k) (e d)
    ∙ ap (arrow (p 0)) (arrows-split n d (λ j. p (suc j)) k ∙ (λ i. arrows n (λ j. p (suc j)) (arrows d (λ j. p (sym (e j) i)) k)))

behind-zero : (k : SortTree) → behind 0 k ≡ k
behind-zero (node u ks) = refl

behind-arrow : (n : ℕ) (a b : SortTree) → behind (suc n) (arrow a b) ≡ behind n b
behind-arrow n a (node u ks) = refl

behind-arrows : (n : ℕ) (p : ℕ → SortTree) (k : SortTree) → behind n (arrows n p k) ≡ k
behind-arrows zero p k = behind-zero k
behind-arrows (suc n) p k = behind-arrow n (p 0) (arrows n (λ j. p (suc j)) k) ∙ behind-arrows n (λ j. p (suc j)) k

-- a term that takes parameters asks for their sorts
module _ (e : Head → SortTree) where
  split_applied : (us vs : Trees Head) (f k : SortTree) → Applied e (join us vs) f k → (m : SortTree) × Applied e us f m × Applied e vs m k
  split_applied none vs f k p = (f, refl, p)
  split_applied (more u us) vs f k (a, b, is, of, rest) =
      let r = split_applied us vs b k rest in
      (r.0, (a, b, is, of, r.1), r.2)

  parameters_asked : (first d : ℕ) (p : ℕ → SortTree) (f k : SortTree) → ((j : ℕ) → e (Var (first + j)) ≡ p j) → Applied e (parameters first d) f k → f ≡ arrows d p k
  parameters_asked first zero p f k h is = is
  parameters_asked first (suc d) p f k h (a, b, is, of, rest) =
      let here : first ≡ first + 0 = omega arith in
      let next : (j : ℕ) → (first + 1) + j ≡ first + suc j = λ j. omega arith in
      let head : a ≡ p 0 = sym of ∙ (ap (λ j. e (Var j)) here ∙ h 0) in
      let tail = parameters_asked (first + 1) d (λ j. p (suc j)) b k (λ j. ap (λ i. e (Var i)) (next j) ∙ h (suc j)) rest in
      is ∙ (λ i. arrow (head i) (tail i))

  without_parameters : (t : Tree Head) (first d : ℕ) (p : ℕ → SortTree) (k : SortTree) → ((j : ℕ) → e (Var (first + j)) ≡ p j) → HasSort e (applied t (parameters first d)) k → HasSort e t (arrows d p k)
  without_parameters (node h us) first d p k same has =
      let r = split_applied us (parameters first d) (e h) k has in
      subst (λ (s : SortTree). Applied e us (e h) s) (parameters_asked first d p r.0 k same r.2) r.1

module _ (rules : List Rule) (ranks : List (Option ℕ)) (ks : List SortTree) (each : length ks ≡ length rules) where
  module _ (t : Sorts) (q : IsSorting (lengthening rules ks) ranks (length (lengthening rules ks)) t) where
    taken : (f : ℕ) (rule : Rule) → slice_get rules f ≡ Some rule
        → t.nonterminal f ≡ arrows rule.params (t.parameter f) (arrows (missing rule.params (sort_at ks f)) (λ j. t.parameter f (rule.params + j)) (behind (rule.params + missing rule.params (sort_at ks f)) (t.nonterminal f)))
    taken f rule at =
        let d = missing rule.params (sort_at ks f) in
        q.nonterminals f (lengthened d rule) (lengthened_get rules ks f rule each at) ∙ arrows-split rule.params d (t.parameter f) (behind (rule.params + d) (t.nonterminal f))

    rest : (f : ℕ) (rule : Rule) → slice_get rules f ≡ Some rule
        → behind rule.params (t.nonterminal f) ≡ arrows (missing rule.params (sort_at ks f)) (λ j. t.parameter f (rule.params + j)) (behind (rule.params + missing rule.params (sort_at ks f)) (t.nonterminal f))
    rest f rule at = ap (behind rule.params) (taken f rule at) ∙ behind-arrows rule.params (t.parameter f) _

    short_sorting : IsSorting rules ranks (length rules) t
    short_sorting = record {
      nonterminals = λ f rule at. taken f rule at ∙ ap (arrows rule.params (t.parameter f)) (sym (rest f rule at));
      bodies = λ f rule below at.
          let d = missing rule.params (sort_at ks f) in
          subst (HasSort (heads t f) rule.body) (sym (rest f rule at))
          (without_parameters (heads t f) rule.body rule.params d (λ j. t.parameter f (rule.params + j)) (behind (rule.params + d) (t.nonterminal f)) (λ j. refl)
          (q.bodies f (lengthened d rule) (omega (arith, below, length-lengthening rules ks)) (lengthened_get rules ks f rule each at)));
      start = q.start;
      terminals = q.terminals;
    }

mutual
  meet_size : (a b : SortTree) → (size (meet a b) ≤ size a) × (size (meet a b) ≤ size b)
  meet_size (node u ks) (node w ls) = let s = meets_size ks ls in (omega (arith, s.0), omega (arith, s.1))

  meets_size : (ks ls : Trees (Unit {0})) → (sizes (meets ks ls) ≤ sizes ks) × (sizes (meets ks ls) ≤ sizes ls)
  meets_size none ls = (omega arith, omega arith)
  meets_size (more k ks) none = (omega arith, omega arith)
  meets_size (more k ks) (more l ls) =
      let s = meet_size k l in
      let r = meets_size ks ls in
      (omega (arith, s.0, r.0), omega (arith, s.1, r.1))

some_size : (k : SortTree) → 1 ≤ size k
some_size (node u ks) = omega arith

-- where a sort is no larger than what it has in common with another, no argument of it is larger than that of the other
within_children : (ks ls : Trees (Unit {0})) (j : ℕ) → sizes ks ≤ sizes (meets ks ls) → size (sort_at (children ks) j) ≤ size (sort_at (children ls) j)
within_children none ls j h = some_size (sort_at (children ls) j)
within_children (more k ks) none j h = absurd (omega (arith, h))
within_children (more k ks) (more l ls) zero h =
    let s = meet_size k l in
    let r = meets_size ks ls in
    omega (arith, h, s.1, r.0)
within_children (more k ks) (more l ls) (suc j) h =
    let s = meet_size k l in
    within_children ks ls j (omega (arith, h, s.0))

within_arguments : (a b : SortTree) (j : ℕ) → size a ≤ size (meet a b) → size (sort_at (arguments a) j) ≤ size (sort_at (arguments b) j)
within_arguments (node u ks) (node w ls) j h = within_children ks ls j (omega (arith, h))

least_lengthened : (rules : List Rule) (ranks : List (Option ℕ)) (ks : List SortTree) (arities : List ℕ) → length ks ≡ length rules
    → IsLeastSorting rules ranks (sorts_of ks arities)
    → IsSorting (lengthening rules ks) (known arities) (length (lengthening rules ks)) (sorts_of ks arities)
    → IsLeastSorting (lengthening rules ks) ranks (sorts_of ks arities)
least_lengthened rules ranks ks arities each l sorted = record {
  sorting = record { nonterminals = sorted.nonterminals; bodies = sorted.bodies; start = sorted.start; terminals = l.sorting.terminals };
  least = λ t q.
      let short = short_sorting rules ranks ks each t q in
      let within = l.least t short in
      let common = l.least _ (common_sorting rules ranks (length rules) (sorts_of ks arities) t l.sorting short) in
      record {
        nonterminals = λ f below. within.nonterminals f (omega (arith, below, length-lengthening rules ks));
        parameters = λ f j long at below.
            subst (λ (k : SortTree). size (sort_at (arguments (sort_at ks f)) j) ≤ size k) (argument_is long.params (t.parameter f) (behind long.params (t.nonterminal f)) (t.nonterminal f) j below (q.nonterminals f long at))
            (within_arguments (sort_at ks f) (t.nonterminal f) j (common.nonterminals f (omega (arith, slice_get_within (lengthening rules ks) f long at, length-lengthening rules ks))));
        terminals = within.terminals;
      };
}

pub inferred_least : (u : UnsortedData) (s : SortedData) → IsSorted s → IsInferred u s → IsLeastSorting s.scheme.rules u.ranks (sorts_of s.sorts s.scheme.ranks)
inferred_least u s is inferred =
    let longer = lengthening u.rules s.sorts in
    let each : length s.sorts ≡ length u.rules = is.each_rule ∙ (ap length inferred.rules ∙ length-lengthening u.rules s.sorts) in
    let sorted : IsSorting longer (known s.scheme.ranks) (length longer) (sorts_of s.sorts s.scheme.ranks) =
    subst (λ (rules : List Rule). IsSorting rules (known s.scheme.ranks) (length rules) (sorts_of s.sorts s.scheme.ranks)) inferred.rules is.sorting in
    subst (λ (rules : List Rule). IsLeastSorting rules u.ranks (sorts_of s.sorts s.scheme.ranks)) (sym inferred.rules)
    (least_lengthened u.rules u.ranks s.sorts s.scheme.ranks each inferred.least sorted)
