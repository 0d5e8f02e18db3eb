-- How many of the numbers before one stay.
use Rattle.std.proofs.Common.{◌≡◌, refl, sym, ◌∙◌, subst, zero-add, ℕ, zero, suc, ◌+◌, ◌<◌, ◌≤◌, Bool, true, false, cond, inl, inr, arith}
use Rattle.std.specs.Prelude.{nat_le}
use Rattle.std.proofs.Math.Numerals.{one-add}
use Rattle.std.proofs.lemmas.Bool.{leb-true, le-leb, cases_lt}
use Rattle.hs_passes.specs.Selection.{place}
use Rattle.hs_passes.proofs.Choosing.{place-le, place-lt}

pub place-mono : (keep : ℕ → Bool) (m n : ℕ) → m ≤ n → place keep m ≤ place keep n
place-mono keep zero n le = omega arith
place-mono keep (suc m) zero le = absurd (omega arith)
place-mono keep (suc m) (suc n) le = omega (arith, place-mono (λ f. keep (suc f)) m n (omega arith))

-- where one of the numbers goes
pub place-less : (keep : ℕ → Bool) (j n : ℕ) → keep j ≡ false → j < n → place keep n < n
place-less keep j zero gone lt = absurd (omega arith)
place-less keep zero (suc n) gone lt =
    subst (λ b. cond b 1 0 + place (λ f. keep (suc f)) n < suc n) (sym gone) (omega (arith, place-le (λ f. keep (suc f)) n))
place-less keep (suc j) (suc n) gone lt = by (keep 0) (place-less (λ f. keep (suc f)) j n gone (omega arith))
  where
    by : (b : Bool) → place (λ f. keep (suc f)) n < n → cond b 1 0 + place (λ f. keep (suc f)) n < suc n
    by true l = omega (arith, l)
    by false l = omega (arith, l)

-- a number that stays is not below another one after the others went, where it isn't before
pub place-leb : (keep : ℕ → Bool) (n j : ℕ) → keep j ≡ true → nat_le (place keep n) (place keep j) ≡ nat_le n j
place-leb keep n j on = elim (cases_lt j n) [
  | inl lt ↦ not_le (place keep n) (place keep j) (place-lt keep j n on lt) ∙ sym (not_le n j lt)
  | inr ge ↦ le-leb (place keep n) (place keep j) (place-mono keep n j ge) ∙ sym (le-leb n j ge)
]
  where
    not_le : (a b : ℕ) → b < a → nat_le a b ≡ false
    not_le a b lt = by (nat_le a b) refl
      where
        by : (c : Bool) → nat_le a b ≡ c → c ≡ false
        by true e = absurd (omega (arith, leb-true a b e, lt))
        by false e = refl

-- each number below that of those that stay is the place of one of them
pub record Kept (keep : ℕ → Bool) (n k : ℕ) : Type 0 where
  pub number : ℕ
  pub within : number < n
  pub on : keep number ≡ true
  pub is : place keep number ≡ k

pub kept_place : (keep : ℕ → Bool) (n k : ℕ) → k < place keep n → Kept keep n k
kept_place keep zero k lt = absurd (omega arith)
kept_place keep (suc n) k lt = by (kept_place (λ f. keep (suc f)) n) (keep 0) refl k lt
  where
    shifted : (b : Bool) → keep 0 ≡ b → (m : ℕ) → Kept (λ f. keep (suc f)) n m → Kept keep (suc n) (cond b 1 0 + m)
    shifted b e m h = record { number = suc h.number; within = omega (arith, h.within); on = h.on; is = λ i. cond (e i) 1 0 + h.is i }

    by : ((m : ℕ) → m < place (λ f. keep (suc f)) n → Kept (λ f. keep (suc f)) n m) → (b : Bool) → keep 0 ≡ b → (k : ℕ) → k < cond b 1 0 + place (λ f. keep (suc f)) n → Kept keep (suc n) k
    by below true e zero lt = record { number = 0; within = omega arith; on = e; is = refl }
    by below true e (suc k) lt = subst (Kept keep (suc n)) (one-add k) (shifted true e k (below k (omega (arith, lt))))
    by below false e k lt = subst (Kept keep (suc n)) (zero-add k) (shifted false e k (below k (omega (arith, lt))))
