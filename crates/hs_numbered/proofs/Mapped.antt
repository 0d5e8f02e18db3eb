-- Lists of numbers, and of what they stand for.
use Rattle.std.proofs.Common.{◌≡◌, sym, ◌∙◌, ap, subst, ℕ, ◌<◌, List, length, map, get_or, All, arith}
use Rattle.std.proofs.lemmas.List.{length-map}
use Rattle.std.proofs.Math.ListN.{get_or-map}

module _ {A X : Type 0} (f : A → X) (xs : List A) (ys : List X) (are : map f xs ≡ ys) where
  pub mapped_long : length ys ≡ length xs
  mapped_long = omega (arith, ap length are, length-map xs f)

  -- what stands at a place
  module _ (k : ℕ) (x : A) (lt : k < length xs) (is : x ≡ get_or xs k x) where
    pub mapped_within : k < length ys
    mapped_within = omega (arith, lt, mapped_long)

    pub mapped_read : f x ≡ get_or ys k (f x)
    mapped_read = ap f is ∙ sym (get_or-map f xs k x) ∙ ap (λ zs. get_or zs k (f x)) are

-- a number at a place is in range
pub read_within : {A : Type 0} (P : A → Type 0) (xs : List A) (k : ℕ) (x : A) → All P xs → k < length xs → x ≡ get_or xs k x → P x
read_within P xs k x all lt is = subst P (sym is) (all k x lt)
