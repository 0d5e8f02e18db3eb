-- Lists whose neighbours ascend.
use Rattle.std.proofs.Common.{◌≡◌, sym, subst, ℕ, zero, suc, ◌+◌, ◌-◌, ◌<◌, List, length, get_or, arith}
use Rattle.std.specs.Cmp.{IsTotalOrder}
use Rattle.std.specs.declared.cmp.Ordering.{Ordering}
use Rattle.std.specs.declared.cmp.Ordering.TheVariants.{Less, Equal}
use Rattle.hs_scheme.specs.flow.Flow.{IsAscending}

module _ {X : Type 0} (R : X → X → Ordering) (total : IsTotalOrder R) (same : (a b : X) → R a b ≡ Equal → a ≡ b) where
  -- from neighbour to neighbour
  far : (xs : List X) → ((k : ℕ) (d : X) → k + 1 < length xs → R (get_or xs k d) (get_or xs (k + 1) d) ≡ Less) → (n i : ℕ) (d : X) → i + n + 1 < length xs → R (get_or xs i d) (get_or xs (i + n + 1) d) ≡ Less
  far xs near zero i d lt =
      let e : i + 0 + 1 ≡ i + 1 = omega arith in
      subst (λ m. R (get_or xs i d) (get_or xs m d) ≡ Less) (sym e) (near i d (omega arith))
  far xs near (suc n) i d lt =
      let e : i + suc n + 1 ≡ i + n + 1 + 1 = omega arith in
      subst (λ m. R (get_or xs i d) (get_or xs m d) ≡ Less) (sym e)
      (total.trans (get_or xs i d) (get_or xs (i + n + 1) d) (get_or xs (i + n + 1 + 1) d) (far xs near n i d (omega arith)) (near (i + n + 1) d (omega arith)))

  pub ascending_from : (xs : List X) → ((k : ℕ) (d : X) → k + 1 < length xs → R (get_or xs k d) (get_or xs (k + 1) d) ≡ Less) → IsAscending R xs
  ascending_from xs near i j d lt within =
      let e : i + (j - i - 1) + 1 ≡ j = omega arith in
      subst (λ m. R (get_or xs i d) (get_or xs m d) ≡ Less) e (far xs near (j - i - 1) i d (omega arith))
