-- Ascending lists that grow at their end.
use Rattle.std.proofs.Common.{◌≡◌, refl, sym, ap, subst, List, [], ◌∷◌, ◌++◌, Contains, inl, inr, arith}
use Rattle.std.specs.Cmp.{IsTotalOrder}
use Rattle.std.specs.declared.cmp.Ordering.{Ordering}
use Rattle.std.specs.declared.cmp.Ordering.TheVariants.{Less}
use Rattle.hs_scheme.specs.flow.Flow.{IsAscending}
use Rattle.hs_scheme.proofs.Lists.{none_in, here, later, uncons, only, pairs_append}
use Rattle.hs_table_laws.proofs.Places.{pairs_tail, pairs_head, pairs_cons}
use Rattle.hs_numbered.specs.Certificates.{IsAboveLast}
use Rattle.hs_cert.proofs.Fronts.{behind_first}

abbrev first_or : {X : Type 0} → X → List X → X
first_or x [] = x
first_or x (y ∷ ys) = y

pub in_middle : {X : Type 0} (ts xs : List X) (x : X) → Contains (ts ++ x ∷ xs) x
in_middle [] xs x = here x xs
in_middle (t ∷ ts) xs x = later t x (ts ++ x ∷ xs) (in_middle ts xs x)

module _ {X : Type 0} (cmp : X → X → Ordering) where
  abbrev R : X → X → Type 0
  R a b = cmp a b ≡ Less

  pub above_before : (ts xs : List X) (x : X) → IsAscending cmp (ts ++ x ∷ xs) → IsAboveLast cmp ts x
  above_before [] xs x up [] last e = absurd (cc)
  above_before [] xs x up (f ∷ front) last e = absurd (cc)
  above_before (t ∷ ts) xs x up [] last e =
      subst (λ y. cmp y x ≡ Less) (ap (first_or x) e) (pairs_head R t x (ts ++ x ∷ xs) up (in_middle ts xs x))
  above_before (t ∷ ts) xs x up (f ∷ front) last e =
      above_before ts xs x (pairs_tail R t (ts ++ x ∷ xs) up) front last (ap behind_first e)

  above_behind : (t : X) (ts : List X) (x : X) → IsAboveLast cmp (t ∷ ts) x → (u : X) (us : List X) → ts ≡ u ∷ us → IsAboveLast cmp ts x
  above_behind t ts x above u us is front last e = above (t ∷ front) last (ap (λ ys. t ∷ ys) e)

  all_below : IsTotalOrder cmp → (ts : List X) (x : X) → IsAscending cmp ts → IsAboveLast cmp ts x → (y : X) → Contains ts y → cmp y x ≡ Less
  all_below total [] x up above y c = absurd (none_in y c)
  all_below total (t ∷ []) x up above y c = subst (λ z. cmp z x ≡ Less) (sym (only t y c)) (above [] t refl)
  all_below total (t ∷ u ∷ ts) x up above y c =
      let rest = all_below total (u ∷ ts) x (pairs_tail R t (u ∷ ts) up) (above_behind t (u ∷ ts) x above u ts refl) in
      elim (uncons t y (u ∷ ts) c) [
        | inl is ↦ subst (λ z. cmp z x ≡ Less) (sym is) (total.trans t u x (pairs_head R t u (u ∷ ts) up (here u ts)) (rest u (here u ts)))
        | inr there ↦ rest y there
      ]

  single : (x : X) → IsAscending cmp (x ∷ [])
  single x = pairs_cons R x [] (λ y c. absurd (none_in y c)) (λ i j d less within. absurd (omega (arith, less, within)))

  pub ascending_push : IsTotalOrder cmp → (ts : List X) (x : X) → IsAscending cmp ts → IsAboveLast cmp ts x → IsAscending cmp (ts ++ x ∷ [])
  ascending_push total ts x up above =
      pairs_append R ts (x ∷ []) up (single x) (λ a b ca cb. subst (λ z. cmp a z ≡ Less) (sym (only x b cb)) (all_below total ts x up above a ca))
