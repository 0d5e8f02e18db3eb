-- Sorts with arguments in front, and what is left of them behind these.
use Rattle.std.proofs.Common.{◌≡◌, refl, sym, ◌∙◌, ap, ℕ, zero, suc, ◌<◌, ◌∷◌, slice_get, Some, arith}
use Rattle.std.specs.Prelude.{unwrap_or}
use Rattle.hs_scheme.specs.Tree.{node}
use Rattle.hs_scheme.specs.sorting.Sorting.{SortTree, o, arrow, arrows, behind, arguments}
use Rattle.hs_scheme.specs.sorting.Sorted.{sort_at}

pub arrows_more : (n : ℕ) (args : ℕ → SortTree) (k : SortTree) → arrows n args (arrow (args n) k) ≡ arrows (suc n) args k
arrows_more zero args k = refl
arrows_more (suc n) args k = ap (arrow (args 0)) (arrows_more n (λ j. args (suc j)) k)

pub arrows_split : (i n : ℕ) (args : ℕ → SortTree) (k : SortTree) → i < n → (r : SortTree) × (arrows n args k ≡ arrows i args (arrow (args i) r))
arrows_split i zero args k h = absurd (omega arith)
arrows_split zero (suc n) args k h = (arrows n (λ j. args (suc j)) k, refl)
arrows_split (suc i) (suc n) args k h = let x = arrows_split i n (λ j. args (suc j)) k (omega arith) in (x.0, ap (arrow (args 0)) x.1)

pub arrows_same : (n : ℕ) (p q : ℕ → SortTree) (k : SortTree) → ((j : ℕ) → j < n → p j ≡ q j) → arrows n p k ≡ arrows n q k
arrows_same zero p q k h = refl
arrows_same (suc n) p q k h = (λ i. arrow (h 0 (omega arith) i) (arrows n (λ j. p (suc j)) k)) ∙ ap (arrow (q 0)) (arrows_same n (λ j. p (suc j)) (λ j. q (suc j)) k (λ j l. h (suc j) (omega arith)))

behind_zero : (k : SortTree) → k ≡ behind 0 k
behind_zero (node u ks) = refl

behind_suc : (n : ℕ) (a b : SortTree) → behind n b ≡ behind (suc n) (arrow a b)
behind_suc n a (node u ks) = refl

-- what is left behind the arguments that were put in front
pub behind_arrows : (n : ℕ) (args : ℕ → SortTree) (k : SortTree) → k ≡ behind n (arrows n args k)
behind_arrows zero args k = behind_zero k
behind_arrows (suc n) args k = behind_arrows n (λ j. args (suc j)) k ∙ behind_suc n (args 0) (arrows n (λ j. args (suc j)) k)

pub left_behind : (n : ℕ) (args : ℕ → SortTree) (k t : SortTree) → t ≡ arrows n args k → k ≡ behind n t
left_behind n args k t e = behind_arrows n args k ∙ ap (behind n) (sym e)

pub arguments-arrow : (a b : SortTree) → arguments (arrow a b) ≡ a ∷ arguments b
arguments-arrow a (node u ks) = refl

argument_at : (n : ℕ) (p : ℕ → SortTree) (k : SortTree) (j : ℕ) → j < n → slice_get (arguments (arrows n p k)) j ≡ Some (p j)
argument_at zero p k j h = absurd (omega arith)
argument_at (suc n) p k zero h = ap (λ xs. slice_get xs 0) (arguments-arrow (p 0) (arrows n (λ j. p (suc j)) k))
argument_at (suc n) p k (suc j) h = ap (λ xs. slice_get xs (suc j)) (arguments-arrow (p 0) (arrows n (λ j. p (suc j)) k)) ∙ argument_at n (λ j. p (suc j)) k j (omega arith)

-- one of the arguments that were put in front
pub argument_is : (n : ℕ) (p : ℕ → SortTree) (k s : SortTree) (j : ℕ) → j < n → s ≡ arrows n p k → sort_at (arguments s) j ≡ p j
argument_is n p k s j h e = ap (λ t. sort_at (arguments t) j) e ∙ ap (λ t. unwrap_or t o) (argument_at n p k j h)
