-- The order of types.
use Rattle.std.proofs.Common.{◌≡◌, refl, sym, ◌∙◌, ap, ℕ, ◌+◌, ◌<◌, ◌≤◌, true, false, not, List, [], ◌∷◌, length, drop, get_or, arith, length-drop}
use Rattle.std.specs.Bool.{◌==◌}
use Rattle.std.specs.Ordering.{nat_cmp, ordering_then, ordering_index}
use Rattle.std.specs.Cmp.{nat_cmp_is}
use Rattle.std.specs.Cmp.Lexicographic.{slice_cmp}
use Rattle.std.specs.declared.cmp.Ordering.{Ordering}
use Rattle.std.specs.declared.cmp.Ordering.TheVariants.{Less, Equal, Greater}
use Rattle.std.proofs.lemmas.List.{drop_all, drop_more}
use Rattle.hs_scheme.specs.Tree.{forest}
use Rattle.hs_table.specs.Types.{TypeTree, arrow, type_cmp, types_cmp}
use Rattle.hs_table.specs.Entries.{EntryData, env_cmp, entry_cmp}

rest_cmp : (m n : ℕ) (ys : List TypeTree) → length ys + m ≡ n → nat_cmp m n ≡ types_cmp (forest []) (forest ys)
rest_cmp m n [] e = sym (nat_cmp_is m n Equal (omega arith))
rest_cmp m n (y ∷ ys) e = sym (nat_cmp_is m n Less (omega arith))

-- behind the members of the first set the lengths decide
pub cmp_at_end : (k : ℕ) (xs ys : List TypeTree) → length xs ≤ k → k ≤ length xs → k ≤ length ys
    → types_cmp (forest (drop k xs)) (forest (drop k ys)) ≡ types_cmp (forest xs) (forest ys) → nat_cmp (length xs) (length ys) ≡ types_cmp (forest xs) (forest ys)
cmp_at_end k xs ys most least within same =
    rest_cmp (length xs) (length ys) (drop k ys) (omega (arith, length-drop k ys))
    ∙ (ap (λ zs. types_cmp (forest zs) (forest (drop k ys))) (sym (drop_all k xs most)) ∙ same)

pub index_of_equal : (o : Ordering) → false ≡ not (ordering_index o == 1) → o ≡ Equal
index_of_equal Less e = (cc)
index_of_equal Equal e = refl
index_of_equal Greater e = (cc)

then_first : (o r : Ordering) → true ≡ not (ordering_index o == 1) → o ≡ ordering_then o r
then_first Less r e = refl
then_first Equal r e = (cc)
then_first Greater r e = refl

-- arrows with the same result are ordered by their sets
pub cmp_of_arrows : (s r : List TypeTree) (t u : TypeTree) → type_cmp t u ≡ Equal → type_cmp (arrow s t) (arrow r u) ≡ types_cmp (forest s) (forest r)
cmp_of_arrows s r t u e = ap (λ o. ordering_then o (types_cmp (forest s) (forest r))) e

-- others by their results
module _ (o : Ordering) (s r : List TypeTree) (t u a b : TypeTree) (is_a : arrow s t ≡ a) (is_b : arrow r u ≡ b) where
  pub cmp_of_results : o ≡ type_cmp t u → true ≡ not (ordering_index o == 1) → o ≡ type_cmp a b
  cmp_of_results e differ =
      then_first o (types_cmp (forest s) (forest r)) differ
      ∙ ((λ i. ordering_then (e i) (types_cmp (forest s) (forest r))) ∙ (λ i. type_cmp (is_a i) (is_b i)))

  -- with the same result by what is left of the sets, which agree so far
  pub cmp_of_rests : (k : ℕ) (xs : List TypeTree) → xs ≡ s → type_cmp t u ≡ Equal
      → types_cmp (forest (drop k xs)) (forest (drop k r)) ≡ types_cmp (forest xs) (forest r) → o ≡ types_cmp (forest (drop k xs)) (forest (drop k r)) → o ≡ type_cmp a b
  cmp_of_rests k xs same equal left e =
      e
      ∙ (left
      ∙ ((λ i. types_cmp (forest (same i)) (forest r)) ∙ (sym (cmp_of_arrows s r t u equal) ∙ (λ i. type_cmp (is_a i) (is_b i)))))

-- entries are ordered by their points, then by their environments, then by their types
module _ (p r o : Ordering) (a b : EntryData) (by_point : p ≡ nat_cmp a.point b.point) where
  pub cmp_by_point : true ≡ not (ordering_index p == 1) → p ≡ entry_cmp a b
  cmp_by_point differ =
      let rest = ordering_then (env_cmp a.env b.env) (type_cmp a.ty b.ty) in
      then_first p rest differ ∙ ap (λ x. ordering_then x rest) by_point

  behind_point : false ≡ not (ordering_index p == 1) → ordering_then (env_cmp a.env b.env) (type_cmp a.ty b.ty) ≡ entry_cmp a b
  behind_point same = ap (λ x. ordering_then x (ordering_then (env_cmp a.env b.env) (type_cmp a.ty b.ty))) (sym (index_of_equal p same) ∙ by_point)

  pub cmp_by_env : false ≡ not (ordering_index p == 1) → r ≡ env_cmp a.env b.env → true ≡ not (ordering_index r == 1) → r ≡ entry_cmp a b
  cmp_by_env same by_env differ = then_first r (type_cmp a.ty b.ty) differ ∙ (ap (λ x. ordering_then x (type_cmp a.ty b.ty)) by_env ∙ behind_point same)

  pub cmp_by_type : false ≡ not (ordering_index p == 1) → r ≡ env_cmp a.env b.env → false ≡ not (ordering_index r == 1) → o ≡ type_cmp a.ty b.ty → o ≡ entry_cmp a b
  cmp_by_type same by_env same_env by_type =
      by_type ∙ (ap (λ x. ordering_then x (type_cmp a.ty b.ty)) (sym (index_of_equal r same_env) ∙ by_env) ∙ behind_point same)

-- Lists that are compared item by item, the longer of two that agree being the greater: at a place where there is an item
-- the other list ends, or these items decide, or they are equal and what is behind them decides.
module _ {X : Type 0} (R : X → X → Ordering) (L : List X → List X → Ordering) (longer : (x : X) (xs : List X) → L (x ∷ xs) [] ≡ Greater)
    (both : (x y : X) (xs ys : List X) → L (x ∷ xs) (y ∷ ys) ≡ ordering_then (R x y) (L xs ys)) (k : ℕ) (xs ys : List X) (x : X) (is_x : x ≡ get_or xs k x) (lt : k < length xs) where
  dropped : (zs : List X) (z : X) → k < length zs → z ≡ get_or zs k z → drop k zs ≡ z ∷ drop (k + 1) zs
  dropped zs z lt is = drop_more zs k z lt ∙ ap (λ w. w ∷ drop (k + 1) zs) (sym is)

  pub cmp_past_end : length ys ≤ k → Greater ≡ L (drop k xs) (drop k ys)
  cmp_past_end end = sym ((λ i. L (dropped xs x lt is_x i) (drop_all k ys end i)) ∙ longer x (drop (k + 1) xs))

  at_item : (y : X) → y ≡ get_or ys k y → k < length ys → L (drop k xs) (drop k ys) ≡ ordering_then (R x y) (L (drop (k + 1) xs) (drop (k + 1) ys))
  at_item y is_y below = (λ i. L (dropped xs x lt is_x i) (dropped ys y below is_y i)) ∙ both x y (drop (k + 1) xs) (drop (k + 1) ys)

  pub cmp_at_item : (y : X) → y ≡ get_or ys k y → k < length ys → (o : Ordering) → o ≡ R x y → true ≡ not (ordering_index o == 1) → o ≡ L (drop k xs) (drop k ys)
  cmp_at_item y is_y below o e differ =
      let rest = L (drop (k + 1) xs) (drop (k + 1) ys) in
      then_first o rest differ ∙ (ap (λ p. ordering_then p rest) e ∙ sym (at_item y is_y below))

  pub cmp_behind : (y : X) → y ≡ get_or ys k y → k < length ys → (o : Ordering) → o ≡ R x y → false ≡ not (ordering_index o == 1)
      → L (drop (k + 1) xs) (drop (k + 1) ys) ≡ L (drop k xs) (drop k ys)
  cmp_behind y is_y below o e same =
      sym (at_item y is_y below ∙ ap (λ p. ordering_then p (L (drop (k + 1) xs) (drop (k + 1) ys))) (sym e ∙ index_of_equal o same))

-- the same of any lists that are compared item by item
module _ {X : Type 0} (R : X → X → Ordering) where
  rest_slice_cmp : (m n : ℕ) (ys : List X) → length ys + m ≡ n → nat_cmp m n ≡ slice_cmp R [] ys
  rest_slice_cmp m n [] e = sym (nat_cmp_is m n Equal (omega arith))
  rest_slice_cmp m n (y ∷ ys) e = sym (nat_cmp_is m n Less (omega arith))

  pub slice_cmp_at_end : (k : ℕ) (xs ys : List X) → length xs ≤ k → k ≤ length xs → k ≤ length ys
      → slice_cmp R (drop k xs) (drop k ys) ≡ slice_cmp R xs ys → nat_cmp (length xs) (length ys) ≡ slice_cmp R xs ys
  slice_cmp_at_end k xs ys most least within same =
      rest_slice_cmp (length xs) (length ys) (drop k ys) (omega (arith, length-drop k ys))
      ∙ (ap (λ zs. slice_cmp R zs (drop k ys)) (sym (drop_all k xs most)) ∙ same)
