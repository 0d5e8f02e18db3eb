-- Lists in an order that is never the other way round, too: their members determine them.
use Rattle.std.proofs.Common.{◌≡◌, refl, sym, ◌∙◌, subst, List, [], ◌∷◌, Contains, AllPairs, inl, inr, ◌↔◌}
use Rattle.hs_scheme.proofs.Lists.{none_in, here, later, uncons}
use Rattle.hs_table_laws.proofs.Places.{pairs_tail, pairs_head}

module _ {X : Type 0} (R : X → X → Type 0) (never : (x y : X) → R x y → R y x → ⊥) where
  first : (x y : X) (xs ys : List X) → AllPairs R (x ∷ xs) → AllPairs R (y ∷ ys) → Contains (y ∷ ys) x → Contains (x ∷ xs) y → x ≡ y
  first x y xs ys ux uy cx cy = elim (uncons y x ys cx) [
    | inl is ↦ is
    | inr behind ↦ elim (uncons x y xs cy) [
      | inl is ↦ sym is
      | inr after ↦ absurd (never x y (pairs_head R x y xs ux after) (pairs_head R y x ys uy behind))
    ]
  ]

  rest : (x y a : X) (xs ys : List X) → x ≡ y → AllPairs R (x ∷ xs) → Contains (y ∷ ys) a → Contains xs a → Contains ys a
  rest x y a xs ys is up c d = elim (uncons y a ys c) [
    | inl e ↦ let own = subst (λ z. R x z) (e ∙ sym is) (pairs_head R x a xs up d) in absurd (never x x own own)
    | inr there ↦ there
  ]

  pub in_order_same : (xs ys : List X) → AllPairs R xs → AllPairs R ys → ((a : X) → Contains xs a ↔ Contains ys a) → xs ≡ ys
  in_order_same [] [] ux uy eq = refl
  in_order_same [] (y ∷ ys) ux uy eq = absurd (none_in y ((eq y).1 (here y ys)))
  in_order_same (x ∷ xs) [] ux uy eq = absurd (none_in x ((eq x).0 (here x xs)))
  in_order_same (x ∷ xs) (y ∷ ys) ux uy eq =
      let is = first x y xs ys ux uy ((eq x).0 (here x xs)) ((eq y).1 (here y ys)) in
      λ i. is i ∷ in_order_same xs ys (pairs_tail R x xs ux) (pairs_tail R y ys uy) (λ a. (
        λ c. rest x y a xs ys is ux ((eq a).0 (later x a xs c)) c,
        λ c. rest y x a ys xs (sym is) uy ((eq a).1 (later y a ys c)) c,
      )) i
