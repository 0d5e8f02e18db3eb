-- Tables that grow by one entry.
use Rattle.std.proofs.Common.{◌≡◌, refl, sym, ◌∙◌, ap, subst, ℕ, zero, suc, ◌+◌, ◌<◌, ◌≤◌, List, [], ◌∷◌, ◌++◌, length, take, Option, Some, None, MatchOption, arith, All, Contains, ◌⊎◌, inl, inr}
use Rattle.std.proofs.lemmas.Bool.{cases_order}
use Rattle.std.proofs.lemmas.List.{take_all}
use Rattle.std.proofs.lemmas.List.Elements.{All-push}
use Rattle.hs_scheme.specs.acceptance.Transition.{TransitionData}
use Rattle.hs_scheme.specs.Problem.{ProblemData}
use Rattle.hs_scheme.proofs.Lists.{push_cases}
use Rattle.hs_table.specs.Entries.{EntryData, InShape}
use Rattle.hs_table.specs.Follows.{Follows}
use Rattle.hs_table.specs.Tables.{IsSupportedTable, IsClosedTable}
use Rattle.hs_table_laws.proofs.Places.{within_from}
use Rattle.hs_table_laws.proofs.Shapes.{LeadsWithin, follows_shape}
use Rattle.hs_table_plain.proofs.Members.{pairs_push}

pub below_or_last : (n k : ℕ) → n < k + 1 → (n < k) ⊎ (n ≡ k)
below_or_last n k h = elim (cases_order n k) [
  | inl same ↦ inr same
  | inr other ↦ elim other [
    | inl lt ↦ inl lt
    | inr gt ↦ absurd (omega arith)
  ]
]

front : {X : Type 0} (xs ys : List X) (i : ℕ) → i ≤ length xs → take i xs ≡ take i (xs ++ ys)
front xs ys zero h = refl
front [] ys (suc i) h = absurd (omega arith)
front (x ∷ xs) ys (suc i) h = ap (λ zs. x ∷ zs) (front xs ys i (omega arith))

pub supported_push : (p : ProblemData) (T : List EntryData) (e : EntryData) → IsSupportedTable p T → Follows p T e → (Contains T e → ⊥) → IsSupportedTable p (T ++ e ∷ [])
supported_push p T e s f new = record {
  distinct = pairs_push T e s.distinct new;
  follows = λ i x at. elim (push_cases T e x i at) [
    | inl h ↦ let lt = within_from T i x h in let le : i ≤ length T = omega (arith, lt) in subst (λ (U : List EntryData). Follows p U x) (front T (e ∷ []) i le) (s.follows i x h)
    | inr h ↦
        let le : i ≤ length T = omega (arith, h.0) in
        let least : length T ≤ i = omega (arith, h.0) in
        subst (λ (U : List EntryData). Follows p U x) (sym (take_all i T least) ∙ front T (e ∷ []) i le) (subst (λ (z : EntryData). Follows p T z) h.1 f)
  ];
}

pub shapes_push : (p : ProblemData) (T : List EntryData) (e : EntryData) → LeadsWithin p.sorted.automaton → All (InShape p) T → Follows p T e → All (InShape p) (T ++ e ∷ [])
shapes_push p T e h all f = All-push (InShape p) T e all (follows_shape p T h e f)

module _ (p : ProblemData) (E F : List EntryData) (o : Option EntryData) where
  pub found_one : (e : EntryData) → E ≡ F → o ≡ Some e → MatchOption o (IsClosedTable p E) (λ e. Follows p E e × (Contains E e → ⊥)) → Follows p F e × (Contains F e → ⊥)
  found_one e same is h =
      let there = subst (λ (x : Option EntryData). MatchOption x (IsClosedTable p E) (λ e. Follows p E e × (Contains E e → ⊥))) is h in
      subst (λ (T : List EntryData). Follows p T e × (Contains T e → ⊥)) same there

  pub found_none : E ≡ F → ((e : EntryData) → o ≡ Some e → ⊥) → MatchOption o (IsClosedTable p E) (λ e. Follows p E e × (Contains E e → ⊥)) → IsClosedTable p F
  found_none same none h = subst (λ (T : List EntryData). IsClosedTable p T) same (cases o none h)
    where
      cases : (x : Option EntryData) → ((e : EntryData) → x ≡ Some e → ⊥) → MatchOption x (IsClosedTable p E) (λ e. Follows p E e × (Contains E e → ⊥)) → IsClosedTable p E
      cases None n k = k
      cases (Some e) n k = absurd (n e refl)

pub within_as : (n m : ℕ) (ts us : List TransitionData) → n ≡ m → ts ≡ us → All (λ (t : TransitionData). All (λ q. q < n) t.to) ts → All (λ (t : TransitionData). All (λ q. q < m) t.to) us
within_as n m ts us e f h =
    subst (λ (xs : List TransitionData). All (λ (t : TransitionData). All (λ q. q < m) t.to) xs) f
    (subst (λ (k : ℕ). All (λ (t : TransitionData). All (λ q. q < k) t.to) ts) e h)
