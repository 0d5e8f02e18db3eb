-- Lists by number that grow, and the numbers below one.
use Rattle.std.proofs.Common.{◌≡◌, refl, sym, ◌∙◌, ap, subst, ℕ, zero, suc, ◌+◌, ◌<◌, ◌≤◌, List, [], ◌∷◌, ◌++◌, map, Contains, inl, inr, ◌↔◌, arith}
use Rattle.std.proofs.lemmas.Bool.{cases_lt}
use Rattle.std.proofs.lemmas.List.Elements.{Contains-append_left, Contains-push}
use Rattle.hs_scheme.proofs.Lists.{none_in}
use Rattle.hs_table_laws.proofs.Members.{pushed_cases}
use Rattle.hs_reads.specs.Lists.{list_of}

-- one more empty list changes none
same_lists : {T R : Type 0} (items : R → List T) (rows : List R) (v : R) → items v ≡ [] → (k : ℕ) → list_of (map items (rows ++ v ∷ [])) k ≡ list_of (map items rows) k
same_lists items [] v e zero = e
same_lists items [] v e (suc k) = refl
same_lists items (r ∷ rows) v e zero = refl
same_lists items (r ∷ rows) v e (suc k) = same_lists items rows v e k

pub reached_more : {T R : Type 0} (items : R → List T) (rows new : List R) (v : R) (lists : List (List T)) → new ≡ rows ++ v ∷ [] → items v ≡ [] → ((k : ℕ) → list_of (map items rows) k ≡ list_of lists k)
    → (k : ℕ) → list_of (map items new) k ≡ list_of lists k
reached_more {T} {R} items rows new v lists is none so_far k = ap (λ (rs : List R). list_of (map items rs) k) is ∙ (same_lists items rows v none k ∙ so_far k)

-- the numbers below one
pub below_all : (every : List ℕ) (n m : ℕ) → n ≤ m → m ≤ n → ((q : ℕ) → Contains every q ↔ q < n) → (q : ℕ) → Contains every q ↔ q < m
below_all every n m le ge so_far q = (λ h. let lt = (so_far q).0 h in omega (arith, lt, le), λ lt. (so_far q).1 (omega (arith, lt, ge)))

pub below_none : (q : ℕ) → Contains [] q ↔ q < 0
below_none q = (λ m. absurd (none_in q m), λ lt. absurd (omega (arith, lt)))

pub below_next : (old new : List ℕ) (n : ℕ) → new ≡ old ++ n ∷ [] → ((q : ℕ) → Contains old q ↔ q < n) → (q : ℕ) → Contains new q ↔ q < n + 1
below_next old new n is so_far q = (
  λ m. elim (pushed_cases old n q (subst (λ (xs : List ℕ). Contains xs q) is m)) [
    | inl was ↦ let lt = (so_far q).0 was in omega (arith, lt)
    | inr last ↦ omega (arith, last)
  ],
  λ lt. subst (λ (xs : List ℕ). Contains xs q) (sym is) (elim (cases_lt q n) [
    | inl less ↦ Contains-append_left old (n ∷ []) q ((so_far q).1 less)
    | inr le ↦ let e : n ≡ q = omega (arith, lt, le) in subst (λ z. Contains (old ++ n ∷ []) z) e (Contains-push old n)
  ]),
)
