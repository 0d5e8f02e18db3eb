-- Lists that are read of numbers, in their order.
use Rattle.std.proofs.Common.{◌≡◌, sym, ◌∙◌, ap, ℕ, ◌≤◌, List, length, map, drop, arith}
use Rattle.std.specs.Cmp.Lexicographic.{slice_cmp}
use Rattle.std.specs.Ordering.{nat_cmp}
use Rattle.std.specs.declared.cmp.Ordering.{Ordering}
use Rattle.std.specs.declared.cmp.Ordering.TheVariants.{Equal}
use Rattle.std.specs.Cmp.{IsTotalOrder}
use Rattle.std.proofs.lemmas.Cmp.{tied_itself}
use Rattle.std.proofs.lemmas.List.{drop-map, length-map}
use Rattle.hs_table.proofs.OrderLemmas.{slice_cmp_at_end}

pub tied_read : {X : Type 0} (R : X → X → Ordering) → IsTotalOrder R → (f : ℕ → X) (a b : ℕ) → a ≡ b → Equal ≡ R (f a) (f b)
tied_read R total f a b same = sym (tied_itself total (f a)) ∙ ap (λ k. R (f a) (f k)) same

-- behind the items of the first list the lengths decide
pub read_at_end : {X : Type 0} (R : X → X → Ordering) (f : ℕ → X) (k : ℕ) (xs ys : List ℕ) → length xs ≤ k → k ≤ length xs → k ≤ length ys
    → slice_cmp R (map f (drop k xs)) (map f (drop k ys)) ≡ slice_cmp R (map f xs) (map f ys) → nat_cmp (length xs) (length ys) ≡ slice_cmp R (map f xs) (map f ys)
read_at_end R f k xs ys most least within same =
    (λ i. nat_cmp (sym (length-map xs f) i) (sym (length-map ys f) i))
    ∙ slice_cmp_at_end R k (map f xs) (map f ys) (omega (arith, most, length-map xs f)) (omega (arith, least, length-map xs f)) (omega (arith, within, length-map ys f))
    ((λ i. slice_cmp R (drop-map f k xs i) (drop-map f k ys i)) ∙ same)
