-- The order of types, told from what types are in numbers.
use Rattle.std.proofs.Common.{◌≡◌, refl, sym, ◌∙◌, ap, ℕ, zero, suc, ◌+◌, ◌<◌, ◌≤◌, List, [], ◌∷◌, length, drop, get_or, All, arith}
use Rattle.std.specs.Ordering.{nat_cmp, ordering_then}
use Rattle.std.specs.Cmp.Lexicographic.{slice_cmp}
use Rattle.std.specs.declared.cmp.Ordering.{Ordering}
use Rattle.std.specs.declared.cmp.Ordering.TheVariants.{Less, Equal, Greater}
use Rattle.std.proofs.lemmas.Cmp.{tied_itself}
use Rattle.std.proofs.lemmas.List.{length-map}
use Rattle.hs_scheme.specs.Tree.{height, heights, forest}
use Rattle.hs_table.specs.Types.{TypeTree, state, arrow, type_cmp}
use Rattle.hs_table.proofs.OrderLemmas.{slice_cmp_at_end}
use Rattle.hs_table_laws.proofs.Orders.{type_cmp_total, arrows_cmp}
use Rattle.hs_types.specs.Nodes.{items_at}

pub cmp_itself : (t u : TypeTree) → t ≡ u → Equal ≡ type_cmp t u
cmp_itself t u e = sym (tied_itself type_cmp_total t) ∙ ap (type_cmp t) e

then_equal-is : (o : Ordering) → ordering_then o Equal ≡ o
then_equal-is Less = refl
then_equal-is Equal = refl
then_equal-is Greater = refl

-- states are ordered by their numbers
pub cmp_states : (a b : TypeTree) (q p : ℕ) (o : Ordering) → a ≡ state q → b ≡ state p → o ≡ nat_cmp q p → o ≡ type_cmp a b
cmp_states a b q p o is is' e = e ∙ sym (then_equal-is (nat_cmp q p)) ∙ (λ i. type_cmp (sym is i) (sym is' i))

-- arrows of one result are ordered by their sets
pub cmp_by_sets : (a b : TypeTree) (s r : List TypeTree) (t u : TypeTree) (o p : Ordering) → a ≡ arrow s t → b ≡ arrow r u → o ≡ type_cmp t u → o ≡ Equal → p ≡ slice_cmp type_cmp s r
    → p ≡ type_cmp a b
cmp_by_sets a b s r t u o p is is' e equal f =
    let then : slice_cmp type_cmp s r ≡ type_cmp (arrow s t) (arrow r u) = ap (λ x. ordering_then x (slice_cmp type_cmp s r)) (sym equal ∙ e) ∙ sym (arrows_cmp s r t u) in
    f ∙ (then ∙ (λ i. type_cmp (sym is i) (sym is' i)))

-- an item is lower than the row of all items
pub height-item : (xs : List TypeTree) (ids : List ℕ) (k d : ℕ) → k < length ids → height (get_or xs (get_or ids k d) (state 0)) + 1 ≤ heights (forest (items_at xs (state 0) ids))
height-item xs [] k d h = absurd (omega arith)
height-item xs (i ∷ ids) zero d h = omega arith
height-item xs (i ∷ ids) (suc k) d h = omega (arith, height-item xs ids k d (omega arith))

pub items_at-drop : {X : Type 0} (xs : List X) (d : X) (k : ℕ) (ids : List ℕ) → items_at xs d (drop k ids) ≡ drop k (items_at xs d ids)
items_at-drop xs d zero ids = refl
items_at-drop xs d (suc k) [] = refl
items_at-drop xs d (suc k) (i ∷ ids) = items_at-drop xs d k ids

-- a member of a set is lower than the row of all members, and in range
pub member_lower : (types set : List TypeTree) (ms : List ℕ) (k m : ℕ) → items_at types (state 0) ms ≡ set → k < length ms → m ≡ get_or ms k m
    → height (get_or types m (state 0)) + 1 ≤ heights (forest set)
member_lower types set ms k m e h is =
    let f : height (get_or types m (state 0)) ≡ height (get_or types (get_or ms k m) (state 0)) = ap (λ i. height (get_or types i (state 0))) is in
    omega (arith, height-item types ms k m h, f, ap (λ (s : List TypeTree). heights (forest s)) e)

pub member_within : (n : ℕ) (ms : List ℕ) (k m : ℕ) → All (λ i. i < n) ms → k < length ms → m ≡ get_or ms k m → m < n
member_within n ms k m range h is = let r = range k m h in omega (arith, r, is)

-- behind the members of the first set the lengths decide
pub sets_at_end : (types s r : List TypeTree) (xs ys : List ℕ) (k : ℕ) (o : Ordering) → items_at types (state 0) xs ≡ s → items_at types (state 0) ys ≡ r → length xs ≤ k → k ≤ length xs → k ≤ length ys
    → slice_cmp type_cmp (items_at types (state 0) (drop k xs)) (items_at types (state 0) (drop k ys)) ≡ slice_cmp type_cmp s r → o ≡ nat_cmp (length xs) (length ys) → o ≡ slice_cmp type_cmp s r
sets_at_end types s r xs ys k o e f most least within left is =
    let X = items_at types (state 0) xs in
    let Y = items_at types (state 0) ys in
    let m = length-map xs (λ i. get_or types i (state 0)) in
    let n = length-map ys (λ i. get_or types i (state 0)) in
    let left' : slice_cmp type_cmp (drop k X) (drop k Y) ≡ slice_cmp type_cmp X Y =
    (λ i. slice_cmp type_cmp (sym (items_at-drop types (state 0) k xs) i) (sym (items_at-drop types (state 0) k ys) i)) ∙ (left ∙ (λ i. slice_cmp type_cmp (sym e i) (sym f i))) in
    is ∙ ((λ i. nat_cmp (sym m i) (sym n i)) ∙ (slice_cmp_at_end type_cmp k X Y (omega (arith, most, m)) (omega (arith, least, m)) (omega (arith, within, n)) left' ∙ (λ i. slice_cmp type_cmp (e i) (f i))))
