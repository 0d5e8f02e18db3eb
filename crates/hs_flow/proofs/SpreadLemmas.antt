-- A loop that finds, for each point in turn, just the pairs that it passes on.
use Rattle.std.proofs.Common.{◌≡◌, ◌≢◌, AllPairs, arith, sym, ◌∙◌, subst, ℕ, ◌+◌, ◌<◌, ◌≤◌, ◌⊎◌, List, [], ◌∷◌, length, get_or, take, inl, inr, Contains}
use Rattle.std.proofs.lemmas.List.{take_more, take_all, get_or_default, get_or-take, length-take}
use Rattle.std.proofs.lemmas.List.Elements.{Contains-append_cases, Contains-append_left, Contains-push}
use Rattle.hs_scheme.specs.declared.flow.Pair.{Pair}
use Rattle.hs_scheme.proofs.Lists.{only}
use Rattle.hs_flow.specs.Pairs.{PairsData, FindsOnly}
use Rattle.hs_flow.proofs.PairLemmas.{finds_keep, finds_cases}

-- P holds for one of the points and the pair
pub record ForOne (xs : List ℕ) (P : ℕ → Pair → Type 0) (q : Pair) : Type 0 where
  pub item : ℕ
  pub among : Contains xs item
  pub holds : P item q

module _ (xs : List ℕ) (P : ℕ → Pair → Type 0) (n : ℕ) (lt : n < length xs) where
  abbrev this : ℕ
  this = get_or xs n 0

  pub each_so_far : (mid new : PairsData) → FindsOnly (P this) mid new → ((q : Pair) → P this q → Contains new.found q) → ((q : Pair) → ForOne (take n xs) P q → Contains mid.found q)
      → (q : Pair) → ForOne (take (n + 1) xs) P q → Contains new.found q
  each_so_far mid new finds all so_far q f =
      elim (Contains-append_cases (take n xs) (this ∷ []) f.item (subst (λ (ys : List ℕ). Contains ys f.item) (take_more xs n 0 lt) f.among)) [
        | inl old ↦ finds_keep (P this) mid new finds q (so_far q (record { item = f.item; among = old; holds = f.holds }))
        | inr last ↦ all q (subst (λ (y : ℕ). P y q) (only this f.item last) f.holds)
      ]

  -- what is there was there at first, or is of the points so far
  pub each_behind : (first : List Pair) (mid new : PairsData) → FindsOnly (P this) mid new → ((q : Pair) → Contains mid.found q → Contains first q ⊎ ForOne (take n xs) P q)
      → (q : Pair) → Contains new.found q → Contains first q ⊎ ForOne (take (n + 1) xs) P q
  each_behind first mid new finds behind q h = elim (finds_cases (P this) mid new finds q h) [
    | inl was ↦ elim (behind q was) [
      | inl before ↦ inl before
      | inr f ↦ inr (record { item = f.item; among = subst (λ (ys : List ℕ). Contains ys f.item) (sym (take_more xs n 0 lt)) (Contains-append_left (take n xs) (this ∷ []) f.item f.among); holds = f.holds })
    ]
    | inr now ↦ inr (record { item = this; among = subst (λ (ys : List ℕ). Contains ys this) (sym (take_more xs n 0 lt)) (Contains-push (take n xs) this); holds = now })
  ]

pub each_done : (xs : List ℕ) (P : ℕ → Pair → Type 0) (n : ℕ) (now : List Pair) → length xs ≤ n → ((q : Pair) → ForOne (take n xs) P q → Contains now q) → (q : Pair) → ForOne xs P q → Contains now q
each_done xs P n now all so_far = subst (λ (ys : List ℕ). (q : Pair) → ForOne ys P q → Contains now q) (take_all n xs all) so_far

-- one of the first points isn't the next
pub not_before : (xs : List ℕ) (n x : ℕ) → AllPairs (λ a b. a ≢ b) xs → n < length xs → Contains (take n xs) x → x ≡ get_or xs n 0 → ⊥
not_before xs n x once lt (k, within, is) same =
    let short : k < n = omega (arith, length-take n xs) in
    once k n 0 short lt (sym (get_or-take n xs k 0 short) ∙ (get_or_default (take n xs) k 0 x within ∙ (is ∙ same)))
