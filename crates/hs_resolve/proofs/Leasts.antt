-- The least line, one item after another.
use Rattle.std.proofs.Common.{◌≡◌, sym, ◌∙◌, subst, ℕ, ◌+◌, ◌≤◌, min, List, length, slice_get, Option, Some, None, ◌⊎◌, inl, inr, arith}
use Rattle.std.proofs.Math.Nat.{eq-or-lt_of_le}
use Rattle.std.proofs.lemmas.Bool.{cases_lt}
use Rattle.std.proofs.lemmas.Option.{slice_get_within, same_Some}
use Rattle.hs_resolve.specs.Least.{IsLeast, earliest, Before}
use Rattle.hs_resolve.specs.LineFaults.{Somewhere}

pub least-same : (P Q : ℕ → Type 0) (a : Option ℕ) → ((line : ℕ) → P line → Q line) → ((line : ℕ) → Q line → P line) → IsLeast P a → IsLeast Q a
least-same P Q None to from h = λ line q. h line (from line q)
least-same P Q (Some a) to from h = (to a h.0, λ line q. h.1 line (from line q))

pub least-either : (P Q : ℕ → Type 0) (a b : Option ℕ) → IsLeast P a → IsLeast Q b → IsLeast (λ line. P line ⊎ Q line) (earliest a b)
least-either P Q None None p q = λ line e. elim e [ inl x ↦ p line x | inr y ↦ q line y ]
least-either P Q None (Some b) p q = (inr q.0, λ line e. elim e [ inl x ↦ absurd (p line x) | inr y ↦ q.1 line y ])
least-either P Q (Some a) None p q = (inl p.0, λ line e. elim e [ inl x ↦ p.1 line x | inr y ↦ absurd (q line y) ])
least-either P Q (Some a) (Some b) p q =
    let bound : (line : ℕ) → P line ⊎ Q line → min a b ≤ line = λ line e. elim e [ inl x ↦ omega (arith, p.1 line x) | inr y ↦ omega (arith, q.1 line y) ] in
    elim (cases_lt a b) [
      | inl less ↦ let e : a ≡ min a b = omega arith in (subst (λ m. P m ⊎ Q m) e (inl p.0), bound)
      | inr more ↦ let e : b ≡ min a b = omega arith in (subst (λ m. P m ⊎ Q m) e (inr q.0), bound)
    ]

module _ {A : Type 0} (P : ℕ → A → ℕ → Type 0) (items : List A) where
  pub least-none : IsLeast (Before P items 0) None
  least-none = λ line b. omega (arith, b.below)

  before_to : (n : ℕ) (x : A) → slice_get items n ≡ Some x → (line : ℕ) → Before P items n line ⊎ P n x line → Before P items (n + 1) line
  before_to n x at line (inl b) = record { place = b.place; item = b.item; below = omega (arith, b.below); at = b.at; holds = b.holds }
  before_to n x at line (inr h) = record { place = n; item = x; below = omega arith; at = at; holds = h }

  before_from : (n : ℕ) (x : A) → slice_get items n ≡ Some x → (line : ℕ) → Before P items (n + 1) line → Before P items n line ⊎ P n x line
  before_from n x at line b =
      let le : b.place ≤ n = omega (arith, b.below) in
      elim (eq-or-lt_of_le le) [
        | inl e ↦ let there : slice_get items n ≡ Some b.item = subst (λ i. slice_get items i ≡ Some b.item) e b.at in
            let f : b.item ≡ x = same_Some b.item x (sym there ∙ at) in
            inr (subst (λ y. P n y line) f (subst (λ i. P i b.item line) e b.holds))
        | inr less ↦ inl (record { place = b.place; item = b.item; below = less; at = b.at; holds = b.holds })
      ]

  pub least-next : (n : ℕ) (x : A) (a : Option ℕ) → slice_get items n ≡ Some x → IsLeast (λ line. Before P items n line ⊎ P n x line) a → IsLeast (Before P items (n + 1)) a
  least-next n x a at h = least-same (λ line. Before P items n line ⊎ P n x line) (Before P items (n + 1)) a (before_to n x at) (before_from n x at) h

  pub least-more : (n : ℕ) (x : A) (a b : Option ℕ) → slice_get items n ≡ Some x → IsLeast (Before P items n) a → IsLeast (P n x) b → IsLeast (Before P items (n + 1)) (earliest a b)
  least-more n x a b at p q =
      least-same (λ line. Before P items n line ⊎ P n x line) (Before P items (n + 1)) (earliest a b) (before_to n x at) (before_from n x at)
      (least-either (Before P items n) (P n x) a b p q)

  pub least-all : (n : ℕ) (a : Option ℕ) → length items ≤ n → IsLeast (Before P items n) a → IsLeast (λ line. Somewhere (λ i x. P i x line) items) a
  least-all n a le p =
      least-same (Before P items n) (λ line. Somewhere (λ i x. P i x line) items) a
      (λ line b. record { place = b.place; item = b.item; at = b.at; holds = b.holds })
      (λ line s. let l = slice_get_within items s.place s.item s.at in record { place = s.place; item = s.item; below = omega arith; at = s.at; holds = s.holds }) p
