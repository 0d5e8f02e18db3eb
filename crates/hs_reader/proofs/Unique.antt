-- The token that offends is one.
use Rattle.std.proofs.Common.{◌≡◌, ℕ, List, [], ◌∷◌, ◌++◌, refl, sym, ap, subst, ◌∙◌, inl, inr, ◌⊎◌, append_assoc}
use Rattle.hs_reader.specs.declared.fault.Which.{Which}
use Rattle.hs_reader.specs.Tokens.{Token, Placed}
use Rattle.hs_reader.specs.Grammar.{IsFile}
use Rattle.hs_reader.specs.Faults.{kinds, BeginsFile, PassesLimit, ReachesToken, Offends}
use Rattle.hs_reader.proofs.Lexing.{lexes_tokens}
use Rattle.hs_reader.proofs.Exact.{kinds_append}

-- of two places in a list, one is the other or stands before it
abbrev PlacesNext : List Placed → List Placed → Placed → Placed → Type 0
PlacesNext xs ys x y = ((xs ≡ ys) × (x ≡ y)) ⊎ (((r : List Placed) × (ys ≡ xs ++ x ∷ r)) ⊎ ((r : List Placed) × (xs ≡ ys ++ y ∷ r)))

places_more : (z w : Placed) (xs ys : List Placed) (x y : Placed) → z ≡ w → PlacesNext xs ys x y → PlacesNext (z ∷ xs) (w ∷ ys) x y
places_more z w xs ys x y e (inl p) = inl ((λ i. e i ∷ p.0 i), p.1)
places_more z w xs ys x y e (inr (inl p)) = inr (inl (p.0, λ i. sym e i ∷ p.1 i))
places_more z w xs ys x y e (inr (inr p)) = inr (inr (p.0, λ i. e i ∷ p.1 i))

places : (xs ys : List Placed) (x y : Placed) (before after : List Placed) → xs ++ x ∷ before ≡ ys ++ y ∷ after → PlacesNext xs ys x y
places [] [] x y before after e = let h : x ≡ y = cc in inl (refl, h)
places [] (w ∷ ys) x y before after e = let h : w ≡ x = cc in inr (inl (ys, ap (λ (k : Placed). k ∷ ys) h))
places (z ∷ xs) [] x y before after e = let h : z ≡ y = cc in inr (inr (xs, ap (λ (k : Placed). k ∷ xs) h))
places (z ∷ xs) (w ∷ ys) x y before after e =
    let h : z ≡ w = cc in
    let f : xs ++ x ∷ before ≡ ys ++ y ∷ after = cc in
    places_more z w xs ys x y h (places xs ys x y before after f)

begins_earlier : (ts us : List Token) → BeginsFile (ts ++ us) → BeginsFile ts
begins_earlier ts us b = record { rest = us ++ b.rest; file = b.file; is_file = subst (λ (w : List Token). IsFile w b.file) (append_assoc ts us b.rest) b.is_file }

-- no token before one that is reached offends
none_before : (bytes : List ℕ) (b1 b2 : List Placed) (a1 a2 : Placed) (r : List Placed) → b2 ≡ b1 ++ a1 ∷ r → ReachesToken bytes b2 a2 → Offends bytes b1 a1 → ⊥
none_before bytes b1 b2 a1 a2 r e second first = go first.offends
  where
    kinds_are : kinds b2 ≡ kinds b1 ++ a1.token ∷ kinds r
    kinds_are = ap kinds e ∙ kinds_append b1 (a1 ∷ r)

    go : ((BeginsFile (kinds b1 ++ a1.token ∷ []) → ⊥) ⊎ ((which : Which) × PassesLimit which (kinds b1) a1.token)) → ⊥
    go (inl not_begun) = not_begun (begins_earlier (kinds b1 ++ a1.token ∷ []) (kinds r) (subst BeginsFile (kinds_are ∙ sym (append_assoc (kinds b1) (a1.token ∷ []) (kinds r))) second.begins))
    go (inr passes) = second.within (kinds b1) a1.token (kinds r) kinds_are passes.0 passes.1

pub one_offends : (bytes : List ℕ) (b1 b2 : List Placed) (a1 a2 : Placed) → Offends bytes b1 a1 → Offends bytes b2 a2 → (b1 ≡ b2) × (a1 ≡ a2)
one_offends bytes b1 b2 a1 a2 p q = go (places b1 b2 a1 a2 p.first.after q.first.after (lexes_tokens bytes (b1 ++ a1 ∷ p.first.after) p.first.lexes ∙ sym (lexes_tokens bytes (b2 ++ a2 ∷ q.first.after) q.first.lexes)))
  where
    go : PlacesNext b1 b2 a1 a2 → (b1 ≡ b2) × (a1 ≡ a2)
    go (inl same) = same
    go (inr (inl later)) = absurd (none_before bytes b1 b2 a1 a2 later.0 later.1 q.first p)
    go (inr (inr later)) = absurd (none_before bytes b2 b1 a2 a1 later.0 later.1 p.first q)
