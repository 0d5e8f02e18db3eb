-- Lists that begin one list.
use Rattle.std.proofs.Common.{◌≡◌, Bool, true, false, cond, leb, ◌≤◌, List, [], ◌∷◌, ◌++◌, length, drop, refl, ap, sym, ◌∙◌, arith, append_assoc}
use mathlib.Core.List.{IsPrefix}
use Rattle.std.proofs.lemmas.Bool.Decides.{nat_tests}
use Rattle.hs_turn.specs.Story.{longer, shorter}

module _ {A : Type 0} where
  pub prefix-refl : (xs : List A) → IsPrefix xs xs
  prefix-refl [] = ([], refl)
  prefix-refl (x ∷ xs) = (let r = prefix-refl xs in r.0, ap (λ ys. x ∷ ys) (prefix-refl xs).1)

  prefix-trans : (xs ys zs : List A) → IsPrefix xs ys → IsPrefix ys zs → IsPrefix xs zs
  prefix-trans xs ys zs p q = (p.0 ++ q.0, sym (append_assoc xs p.0 q.0) ∙ (ap (λ w. w ++ q.0) p.1 ∙ q.1))

  pub prefix-longer : (xs ys more : List A) → IsPrefix xs ys → IsPrefix xs (ys ++ more)
  prefix-longer xs ys more p = prefix-trans xs ys (ys ++ more) p (more, refl)

  -- of two beginnings of one list the shorter begins the longer
  pub prefix-shorter : (xs ys zs : List A) → IsPrefix xs zs → IsPrefix ys zs → length xs ≤ length ys → IsPrefix xs ys
  prefix-shorter [] ys zs p q le = (ys, refl)
  prefix-shorter (x ∷ xs) [] zs p q le = absurd (omega arith)
  prefix-shorter (x ∷ xs) (y ∷ ys) [] p q le = absurd (cc (p.1))
  prefix-shorter (x ∷ xs) (y ∷ ys) (z ∷ zs) p q le =
      let heads : x ≡ y = cc (p.1, q.1) in
      let rest = prefix-shorter xs ys zs (p.0, cc (p.1)) (q.0, cc (q.1)) (omega arith) in
      (rest.0, cc (heads, rest.1))

  drop-append : (xs more : List A) → drop (length xs) (xs ++ more) ≡ more
  drop-append [] more = refl
  drop-append (y ∷ xs) more = drop-append xs more

  -- what a list has behind another that begins it
  pub behind : (xs ys more : List A) → ys ≡ xs ++ more → drop (length xs) ys ≡ more
  behind xs ys more is = ap (drop (length xs)) is ∙ drop-append xs more

  both_begin_by : (b : Bool) (xs ys : List A) → IsPrefix (cond b xs ys) (cond b ys xs) → IsPrefix xs (cond b ys xs) × IsPrefix ys (cond b ys xs)
  both_begin_by true xs ys p = (p, prefix-refl ys)
  both_begin_by false xs ys p = (prefix-refl xs, p)

  pub both_begin : (xs ys : List A) → IsPrefix (shorter xs ys) (longer xs ys) → IsPrefix xs (longer xs ys) × IsPrefix ys (longer xs ys)
  both_begin xs ys = both_begin_by (leb (length xs) (length ys)) xs ys

  shorter_by : (b : Bool) (xs ys : List A) → leb (length xs) (length ys) ≡ b → length (cond b xs ys) ≤ length (cond b ys xs)
  shorter_by true xs ys e = grind (arith, nat_tests)
  shorter_by false xs ys e = grind (arith, nat_tests)

  pub shorter_le_longer : (xs ys : List A) → length (shorter xs ys) ≤ length (longer xs ys)
  shorter_le_longer xs ys = shorter_by (leb (length xs) (length ys)) xs ys refl

  -- one of two beginnings is one
  pub prefix-chosen : (b : Bool) (xs ys zs : List A) → IsPrefix xs zs → IsPrefix ys zs → IsPrefix (cond b xs ys) zs
  prefix-chosen true xs ys zs p q = p
  prefix-chosen false xs ys zs p q = q
