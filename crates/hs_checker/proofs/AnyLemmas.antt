-- What a step of a loop adds, where a list gains what each item gives.
use Rattle.std.proofs.Common.{◌≡◌, refl, subst, ℕ, ◌+◌, ◌<◌, List, length, get_or, take, inl, inr, ◌⊎◌, ◌↔◌}
use Rattle.hs_table_plain.proofs.Members.{next_member}
use Rattle.hs_checker.specs.Any.{AnyOf}

module _ {X Y : Type 0} (P : X → Y → Type 0) (xs : List X) (k : ℕ) (x : X) (lt : k < length xs) (read : x ≡ get_or xs k x) where
  pub one_more : (y : Y) → AnyOf P (take (k + 1) xs) y ↔ (AnyOf P (take k xs) y ⊎ P x y)
  one_more y = (
    λ a. elim ((next_member xs k x a.item lt read).0 a.there) [
      | inl t ↦ inl (record { item = a.item; there = t; holds = a.holds })
      | inr same ↦ inr (subst (λ z. P z y) same a.holds)
    ],
    λ h. elim h [
      | inl a ↦ record { item = a.item; there = (next_member xs k x a.item lt read).1 (inl a.there); holds = a.holds }
      | inr own ↦ record { item = x; there = (next_member xs k x x lt read).1 (inr refl); holds = own }
    ],
  )

  pub any_step : (Old New : Y → Type 0) → ((y : Y) → New y ↔ (Old y ⊎ P x y)) → ((y : Y) → Old y ↔ AnyOf P (take k xs) y) → (y : Y) → New y ↔ AnyOf P (take (k + 1) xs) y
  any_step Old New more before y = (
    λ n. (one_more y).1 (elim ((more y).0 n) [
      | inl o ↦ inl ((before y).0 o)
      | inr own ↦ inr own
    ]),
    λ a. (more y).1 (elim ((one_more y).0 a) [
      | inl t ↦ inl ((before y).1 t)
      | inr own ↦ inr own
    ]),
  )

  pub any_step_beside : (Start Old New : Y → Type 0) → ((y : Y) → New y ↔ (Old y ⊎ P x y)) → ((y : Y) → Old y ↔ (Start y ⊎ AnyOf P (take k xs) y)) → (y : Y) → New y ↔ (Start y ⊎ AnyOf P (take (k + 1) xs) y)
  any_step_beside Start Old New more before y = (
    λ n. elim ((more y).0 n) [
      | inl o ↦ elim ((before y).0 o) [
        | inl s ↦ inl s
        | inr t ↦ inr ((one_more y).1 (inl t))
      ]
      | inr own ↦ inr ((one_more y).1 (inr own))
    ],
    λ h. (more y).1 (elim h [
      | inl s ↦ inl ((before y).1 (inl s))
      | inr a ↦ elim ((one_more y).0 a) [
        | inl t ↦ inl ((before y).1 (inr t))
        | inr own ↦ inr own
      ]
    ]),
  )
