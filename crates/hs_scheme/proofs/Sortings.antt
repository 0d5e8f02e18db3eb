-- Ranks and lengthened rules by their places; and two sortings have a common part, which is a sorting, so the least one is unique.
use Rattle.std.proofs.Common.{◌≡◌, refl, sym, ◌∙◌, ap, subst, ℕ, zero, suc, ◌≤◌, List, [], ◌∷◌, length, slice_get, Option, Some, All, arith}
use Rattle.std.proofs.lemmas.List.Elements.{All-nil, All-cons, All-head, All-tail}
use Rattle.hs_scheme.specs.declared.term.Head.{Head}
use Rattle.hs_scheme.specs.declared.term.Head.TheVariants.{Var, Nt, Tm}
use Rattle.hs_scheme.specs.declared.term.Rule.{Rule}
use Rattle.hs_scheme.specs.Tree.{Tree, Trees, node, none, more, children}
use Rattle.hs_scheme.specs.sorting.Sorting.{SortTree, o, arrow, arrows, arguments, ranked, without, behind, size, sizes, Sorts, heads, HasSort, Applied, IsSorting, IsLeastSorting, AreEqual, IsFirstOrder, AreFirstOrder, IsWellSorted}
use Rattle.hs_scheme.specs.sorting.Sorted.{known}
use Rattle.hs_scheme.specs.sorting.Lengthening.{lengthening}

pub known_at : (ranks : List ℕ) (a n : ℕ) → slice_get (known ranks) a ≡ Some (Some n) → slice_get ranks a ≡ Some n
known_at [] a n e = absurd (cc)
known_at (r ∷ ranks) zero n e = cc
known_at (r ∷ ranks) (suc a) n e = known_at ranks a n e

pub length-lengthening : (rules : List Rule) (ks : List SortTree) → length (lengthening rules ks) ≡ length rules
length-lengthening [] ks = refl
length-lengthening (r ∷ rules) [] = refl
length-lengthening (r ∷ rules) (k ∷ ks) = ap suc (length-lengthening rules ks)

pub length-arrow : (a b : SortTree) → length (arguments (arrow a b)) ≡ suc (length (arguments b))
length-arrow a (node u ks) = refl

pub length-ranked : (n : ℕ) → length (arguments (ranked n)) ≡ n
length-ranked zero = refl
length-ranked (suc n) = length-arrow o (ranked n) ∙ ap suc (length-ranked n)

-- the arguments that both sorts have, from the front, each cut down in the same way
abbrev mutual
  pub meet : SortTree → SortTree → SortTree
  meet (node u ks) (node w ls) = node tt (meets ks ls)

  pub meets : Trees (Unit {0}) → Trees (Unit {0}) → Trees (Unit {0})
  meets none ls = none
  meets (more k ks) none = none
  meets (more k ks) (more l ls) = more (meet k l) (meets ks ls)

meet-arrow : (a b c d : SortTree) → meet (arrow a b) (arrow c d) ≡ arrow (meet a c) (meet b d)
meet-arrow a (node u ks) c (node w ls) = refl

meet-arrows : (n : ℕ) (p q : ℕ → SortTree) (k l : SortTree) → meet (arrows n p k) (arrows n q l) ≡ arrows n (λ j. meet (p j) (q j)) (meet k l)
meet-arrows zero p q k l = refl
meet-arrows (suc n) p q k l =
    meet-arrow (p 0) (arrows n (λ j. p (suc j)) k) (q 0) (arrows n (λ j. q (suc j)) l)
    ∙ ap (arrow (meet (p 0) (q 0))) (meet-arrows n (λ j. p (suc j)) (λ j. q (suc j)) k l)

meets-none : (ks : Trees (Unit {0})) → meets ks none ≡ none
meets-none none = refl
meets-none (more k ks) = refl

meets-without : (n : ℕ) (ks ls : Trees (Unit {0})) → meets (without n ks) (without n ls) ≡ without n (meets ks ls)
meets-without zero ks ls = refl
meets-without (suc n) none ls = refl
meets-without (suc n) (more k ks) none = meets-none (without n ks)
meets-without (suc n) (more k ks) (more l ls) = meets-without n ks ls

-- what is left of the common part is the common part of what is left
meet-behind : (n : ℕ) (a b : SortTree) → meet (behind n a) (behind n b) ≡ behind n (meet a b)
meet-behind n (node u ks) (node w ls) = ap (node tt) (meets-without n ks ls)

mutual
  meet_comm : (a b : SortTree) → meet a b ≡ meet b a
  meet_comm (node u ks) (node w ls) = ap (node tt) (meets_comm ks ls)

  meets_comm : (ks ls : Trees (Unit {0})) → meets ks ls ≡ meets ls ks
  meets_comm none none = refl
  meets_comm none (more l ls) = refl
  meets_comm (more k ks) none = refl
  meets_comm (more k ks) (more l ls) = λ i. more (meet_comm k l i) (meets_comm ks ls i)

mutual
  size-meet : (a b : SortTree) → size (meet a b) ≤ size a
  size-meet (node u ks) (node w ls) = omega (arith, sizes-meets ks ls)

  sizes-meets : (ks ls : Trees (Unit {0})) → sizes (meets ks ls) ≤ sizes ks
  sizes-meets none ls = omega arith
  sizes-meets (more k ks) none = omega arith
  sizes-meets (more k ks) (more l ls) = omega (arith, size-meet k l, sizes-meets ks ls)

-- a sort that isn't larger than its part is that part
mutual
  meet_whole : (a b : SortTree) → size a ≤ size (meet a b) → meet a b ≡ a
  meet_whole (node u ks) (node w ls) h = ap (node tt) (meets_whole ks ls (omega arith))

  meets_whole : (ks ls : Trees (Unit {0})) → sizes ks ≤ sizes (meets ks ls) → meets ks ls ≡ ks
  meets_whole none ls h = refl
  meets_whole (more k ks) none h = absurd (omega arith)
  meets_whole (more k ks) (more l ls) h =
      λ i. more (meet_whole k l (omega (arith, size-meet k l, sizes-meets ks ls)) i) (meets_whole ks ls (omega (arith, size-meet k l, sizes-meets ks ls)) i)

abbrev common : Sorts → Sorts → Sorts
common s t = record {
  nonterminal = λ f. meet (s.nonterminal f) (t.nonterminal f);
  parameter = λ f j. meet (s.parameter f j) (t.parameter f j);
  terminal = λ a. meet (s.terminal a) (t.terminal a);
}

heads-common : (s t : Sorts) (f : ℕ) (h : Head) → meet (heads s f h) (heads t f h) ≡ heads (common s t) f h
heads-common s t f (Var j) = refl
heads-common s t f (Nt g) = refl
heads-common s t f (Tm a) = refl

module _ (d e : Head → SortTree) where
  mutual
    meet_sort : (t : Tree Head) (k l : SortTree) → HasSort d t k → HasSort e t l → HasSort (λ h. meet (d h) (e h)) t (meet k l)
    meet_sort (node h ts) k l p q = meet_applied ts (d h) (e h) k l p q

    meet_applied : (ts : Trees Head) (f g k l : SortTree) → Applied d ts f k → Applied e ts g l → Applied (λ h. meet (d h) (e h)) ts (meet f g) (meet k l)
    meet_applied none f g k l p q = λ i. meet (p i) (q i)
    meet_applied (more t ts) f g k l (a, b, is, of, rest) (c, r, is', of', rest') = (
      meet a c,
      meet b r,
      (λ i. meet (is i) (is' i)) ∙ meet-arrow a b c r,
      meet_sort t a c of of',
      meet_applied ts b r k l rest rest',
    )

pub common_sorting : (rules : List Rule) (ranks : List (Option ℕ)) (k : ℕ) (s t : Sorts) → IsSorting rules ranks k s → IsSorting rules ranks k t
    → IsSorting rules ranks k (common s t)
common_sorting rules ranks k s t p q = record {
  nonterminals = λ f rule at.
      (λ i. meet (p.nonterminals f rule at i) (q.nonterminals f rule at i))
      ∙ (meet-arrows rule.params (s.parameter f) (t.parameter f) (behind rule.params (s.nonterminal f)) (behind rule.params (t.nonterminal f))
      ∙ ap (arrows rule.params (λ j. meet (s.parameter f j) (t.parameter f j))) (meet-behind rule.params (s.nonterminal f) (t.nonterminal f)));
  bodies = λ f rule below at.
      subst (λ (k : SortTree). HasSort (heads (common s t) f) rule.body k) (meet-behind rule.params (s.nonterminal f) (t.nonterminal f))
      (subst (λ (e : Head → SortTree). HasSort e rule.body (meet (behind rule.params (s.nonterminal f)) (behind rule.params (t.nonterminal f))))
      (λ i h. heads-common s t f h i)
      (meet_sort (heads s f) (heads t f) rule.body (behind rule.params (s.nonterminal f)) (behind rule.params (t.nonterminal f)) (p.bodies f rule below at) (q.bodies f rule below at)));
  start = λ i. meet (p.start i) (q.start i);
  terminals = λ a n at. (λ i. meet (p.terminals a n at i) (q.terminals a n at i)) ∙ meet-arrows n (λ _. o) (λ _. o) o o;
}

-- two sorts that are no larger than their common part are equal
same_as_common : (a b : SortTree) → size a ≤ size (meet a b) → size b ≤ size (meet a b) → a ≡ b
same_as_common a b p q = sym (meet_whole a b p) ∙ (meet_comm a b ∙ meet_whole b a (subst (λ (c : SortTree). size b ≤ size c) (meet_comm a b) q))

pub least_unique : (rules : List Rule) (ranks : List (Option ℕ)) (s t : Sorts) → IsLeastSorting rules ranks s → IsLeastSorting rules ranks t → AreEqual rules ranks s t
least_unique rules ranks s t p q =
    let both = common_sorting rules ranks (length rules) s t p.sorting q.sorting in
    let left = p.least (common s t) both in
    let right = q.least (common s t) both in
    record {
      nonterminals = λ f below. same_as_common _ _ (left.nonterminals f below) (right.nonterminals f below);
      parameters = λ f j rule at below. same_as_common _ _ (left.parameters f j rule at below) (right.parameters f j rule at below);
      terminals = λ a below. same_as_common _ _ (left.terminals a below) (right.terminals a below);
    }

meet-o : (k : SortTree) → meet k o ≡ o
meet-o (node u none) = refl
meet-o (node u (more k ks)) = refl

meets_first_order : (ks ls : Trees (Unit {0})) → All (λ k. k ≡ o) (children ls) → All (λ k. k ≡ o) (children (meets ks ls))
meets_first_order none ls h = All-nil (λ k. k ≡ o)
meets_first_order (more k ks) none h = All-nil (λ k. k ≡ o)
meets_first_order (more k ks) (more l ls) h =
    All-cons (λ j. j ≡ o) (meet k l) (children (meets ks ls)) (ap (meet k) (All-head (λ j. j ≡ o) l (children ls) h) ∙ meet-o k)
    (meets_first_order ks ls (All-tail (λ j. j ≡ o) l (children ls) h))

meet_first_order : (a b : SortTree) → IsFirstOrder b → IsFirstOrder (meet a b)
meet_first_order (node u ks) (node w ls) h = meets_first_order ks ls h

pub least_first_order : (rules : List Rule) (ranks : List (Option ℕ)) (s : Sorts) → IsLeastSorting rules ranks s → IsWellSorted rules ranks → AreFirstOrder ranks s
least_first_order rules ranks s p (t, sorting, first_order) a below =
    let both = common_sorting rules ranks (length rules) s t p.sorting sorting in
    let le = (p.least (common s t) both).terminals a below in
    subst IsFirstOrder (meet_whole (s.terminal a) (t.terminal a) le) (meet_first_order (s.terminal a) (t.terminal a) (first_order a below))
