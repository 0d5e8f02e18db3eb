-- Lines that are written number by number.
use Rattle.std.proofs.Common.{◌≡◌, sym, ◌∙◌, ap, ℕ, zero, suc, ◌+◌, List, [], ◌∷◌, ◌++◌, add-one, append_assoc, arith}
use Rattle.std.specs.List.{flat_map, range_with_len}
use Rattle.std.proofs.lemmas.List.{flat_map_more}

range-push : (a n : ℕ) → range_with_len a (suc n) ≡ range_with_len a n ++ (a + n) ∷ []
range-push a zero = let e : a ≡ a + 0 = omega arith in ap (λ m. m ∷ []) e
range-push a (suc n) = let e : a + 1 + n ≡ a + suc n = omega arith in ap (λ ms. a ∷ ms) (range-push (a + 1) n ∙ ap (λ m. range_with_len (a + 1) n ++ m ∷ []) e)

range-more : (n : ℕ) → range_with_len 0 (n + 1) ≡ range_with_len 0 n ++ n ∷ []
range-more n = let e : 0 + n ≡ n = omega arith in rw add-one (range-push 0 n ∙ ap (λ m. range_with_len 0 n ++ m ∷ []) e)

-- the lines of one more number
pub number-more : (f : ℕ → List ℕ) (n : ℕ) (first old new : List ℕ)
    → old ≡ first ++ flat_map f (range_with_len 0 n) → new ≡ old ++ f n → new ≡ first ++ flat_map f (range_with_len 0 (n + 1))
number-more f n first old new was e =
    e ∙ (ap (λ t. t ++ f n) was ∙ (flat_map_more f first (range_with_len 0 n) n ∙ ap (λ ns. first ++ flat_map f ns) (sym (range-more n))))

-- three pieces, each put behind the one before
pub three-pieces : (x y z old first second new : List ℕ) → first ≡ old ++ x → second ≡ first ++ y → new ≡ second ++ z → new ≡ old ++ (x ++ (y ++ z))
three-pieces x y z old first second new f s e =
    e ∙ (ap (λ t. t ++ z) (s ∙ ap (λ t. t ++ y) f) ∙ (append_assoc (old ++ x) y z ∙ append_assoc old x (y ++ z)))
