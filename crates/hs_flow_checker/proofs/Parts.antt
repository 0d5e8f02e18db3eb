-- A list as its first items and those behind them, and one item more.
use Rattle.std.proofs.Common.{◌≡◌, sym, subst, ℕ, ◌+◌, ◌-◌, ◌<◌, List, [], ◌∷◌, length, take, drop, get_or, Contains, ◌⊎◌, inl, inr, arith}
use Rattle.std.proofs.lemmas.List.{take-append-drop, take_rest, take_more}
use Rattle.std.proofs.lemmas.List.Elements.{Contains-append_right, Contains-append_cases}
use Rattle.hs_scheme.proofs.Lists.{none_in}
use Rattle.hs_table_laws.proofs.Members.{pushed_cases}

-- a list that is found empty has no member
pub nothing_in : {X : Type 0} (xs : List X) (x : X) → length xs ≡ 0 → Contains xs x → ⊥
nothing_in xs x none there = omega (arith, none, there.1)

pub in_parts : {X : Type 0} (xs : List X) (n : ℕ) (x : X) → Contains xs x → Contains (take n xs) x ⊎ Contains (take (length xs - n) (drop n xs)) x
in_parts xs n x c = elim (Contains-append_cases (take n xs) (drop n xs) x (subst (λ ys. Contains ys x) (sym (take-append-drop n xs)) c)) [
  | inl before ↦ inl before
  | inr behind ↦ inr (subst (λ ys. Contains ys x) (sym (take_rest xs n)) behind)
]

pub in_rest : {X : Type 0} (xs : List X) (n : ℕ) (x : X) → Contains (take (length xs - n) (drop n xs)) x → Contains xs x
in_rest xs n x c = subst (λ ys. Contains ys x) (take-append-drop n xs) (Contains-append_right (take n xs) (drop n xs) x (subst (λ ys. Contains ys x) (take_rest xs n) c))

pub none_first : {X : Type 0} (xs : List X) (x : X) → Contains (take 0 xs) x → ⊥
none_first [] x c = none_in x c
none_first (y ∷ ys) x c = none_in x c

-- what a loop has seen after its next step
pub next_item : {X : Type 0} (xs : List X) (k : ℕ) (d x : X) → k < length xs → Contains (take (k + 1) xs) x → Contains (take k xs) x ⊎ (x ≡ get_or xs k d)
next_item xs k d x lt c = pushed_cases (take k xs) (get_or xs k d) x (subst (λ ys. Contains ys x) (take_more xs k d lt) c)
