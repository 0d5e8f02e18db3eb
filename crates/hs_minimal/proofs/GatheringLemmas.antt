-- Rows at the points from which something may follow.
use Rattle.std.proofs.Common.{◌≡◌, refl, sym, ◌∙◌, ap, subst, ℕ, ◌+◌, ◌<◌, ◌≤◌, Bool, true, nat_eq, ◌&&◌, filter, List, [], ◌∷◌, ◌++◌, length, get_or, take, slice_index, Some, Contains, ◌⊎◌, inl, inr, ◌↔◌}
use Rattle.std.specs.List.Sorted.{IsPermutation}
use Rattle.std.proofs.lemmas.Bool.{eqb-true, eq-eqb, and_parts}
use Rattle.std.proofs.lemmas.List.{take_all}
use Rattle.std.proofs.lemmas.List.Elements.{Contains-append_left, Contains-append_right, Contains-append_cases}
use Rattle.std.proofs.lemmas.List.Sorted.{IsPermutation-sym, Contains-permutation}
use Rattle.std.proofs.lemmas.Option.{slice_get-get_or, get_or_from_slice_get}
use Rattle.hs_scheme.specs.declared.flow.FlowPair.{FlowPair}
use Rattle.hs_scheme.specs.declared.term.Head.TheVariants.{Var, Nt}
use Rattle.hs_scheme.specs.flow.Points.{point_at}
use Rattle.hs_scheme.specs.Problem.{ProblemData}
use Rattle.hs_scheme.proofs.Lists.{none_in, here, filter_has, filter_passes, filter_keeps}
use Rattle.hs_table_laws.proofs.Members.{taken_next, pushed_cases}
use Rattle.hs_weak.specs.Reads.{FlowsTo}
use Rattle.hs_types.specs.Interned.{RowData}
use Rattle.hs_reads.specs.Lists.{list_of}
use Rattle.hs_minimal.specs.Growing.{GrowingData}
use Rattle.hs_minimal.specs.Following.{IsHeadSource, IsSource, AddsRowsOf, IsGathered}

module _ (g : GrowingData) where
  pub adds_as : (A B : ℕ → Type 0) → ((u : ℕ) → A u ↔ B u) → (old new : List RowData) → AddsRowsOf g A old new → AddsRowsOf g B old new
  adds_as A B same old new adds r = (
    λ m. elim ((adds r).0 m) [
      | inl was ↦ inl was
      | inr h ↦ inr (h.0, ((same h.0).0 h.1.0, h.1.1))
    ],
    λ h. elim h [
      | inl was ↦ (adds r).1 (inl was)
      | inr k ↦ (adds r).1 (inr (k.0, ((same k.0).1 k.1.0, k.1.1)))
    ],
  )

  pub adds_both : (A B : ℕ → Type 0) (old mid new : List RowData) → AddsRowsOf g A old mid → AddsRowsOf g B mid new → AddsRowsOf g (λ u. A u ⊎ B u) old new
  adds_both A B old mid new first then r = (
    λ m. elim ((then r).0 m) [
      | inl was ↦ elim ((first r).0 was) [
        | inl before ↦ inl before
        | inr h ↦ inr (h.0, (inl h.1.0, h.1.1))
      ]
      | inr h ↦ inr (h.0, (inr h.1.0, h.1.1))
    ],
    λ h. elim h [
      | inl was ↦ (then r).1 (inl ((first r).1 (inl was)))
      | inr k ↦ elim k.1.0 [
        | inl a ↦ (then r).1 (inl ((first r).1 (inr (k.0, (a, k.1.1)))))
        | inr b ↦ (then r).1 (inr (k.0, (b, k.1.1)))
      ]
    ],
  )

  pub adds_nothing : (A : ℕ → Type 0) → ((u : ℕ) → A u → ⊥) → (old : List RowData) → AddsRowsOf g A old old
  adds_nothing A never old r = (
    λ m. inl m,
    λ h. elim h [
      | inl was ↦ was
      | inr k ↦ absurd (never k.0 k.1.0)
    ],
  )

  pub adds_at : (point : ℕ) (old new : List RowData) → new ≡ old ++ list_of g.rows point → AddsRowsOf g (λ u. u ≡ point) old new
  adds_at point old new is r = (
    λ m. elim (Contains-append_cases old (list_of g.rows point) r (subst (λ (z : List RowData). Contains z r) is m)) [
      | inl was ↦ inl was
      | inr own ↦ inr (point, (refl, own))
    ],
    λ h. subst (λ (z : List RowData). Contains z r) (sym is) (elim h [
      | inl was ↦ Contains-append_left old (list_of g.rows point) r was
      | inr k ↦ Contains-append_right old (list_of g.rows point) r (subst (λ u. Contains (list_of g.rows u) r) k.1.0 k.1.1)
    ]),
  )

  -- at the points of the items so far
  module _ {X : Type 0} (at : X → ℕ) (xs : List X) (old : List RowData) where
    abbrev pub OfSome : List X → ℕ → Type 0
    OfSome ys u = (x : X) × (Contains ys x × (at x ≡ u))

    pub some_none : AddsRowsOf g (OfSome (take 0 xs)) old old
    some_none = adds_nothing (OfSome (take 0 xs)) (λ u h. none_in h.0 h.1.0) old

    pub some_next : (k : ℕ) (x : X) → k < length xs → x ≡ get_or xs k x → (mid new : List RowData) → AddsRowsOf g (OfSome (take k xs)) old mid → AddsRowsOf g (λ u. u ≡ at x) mid new → AddsRowsOf g (OfSome (take (k + 1) xs)) old new
    some_next k x lt is mid new first then = adds_as (λ u. OfSome (take k xs) u ⊎ (u ≡ at x)) (OfSome (take (k + 1) xs)) same old new (adds_both (OfSome (take k xs)) (λ u. u ≡ at x) old mid new first then)
      where
        next : take (k + 1) xs ≡ take k xs ++ x ∷ []
        next = taken_next xs k x lt is

        same : (u : ℕ) → (OfSome (take k xs) u ⊎ (u ≡ at x)) ↔ OfSome (take (k + 1) xs) u
        same u = (
          λ h. elim h [
            | inl was ↦ (was.0, (subst (λ (z : List X). Contains z was.0) (sym next) (Contains-append_left (take k xs) (x ∷ []) was.0 was.1.0), was.1.1))
            | inr own ↦ (x, (subst (λ (z : List X). Contains z x) (sym next) (Contains-append_right (take k xs) (x ∷ []) x (here x [])), sym own))
          ],
          λ h. elim (pushed_cases (take k xs) x h.0 (subst (λ (z : List X). Contains z h.0) next h.1.0)) [
            | inl was ↦ inl (h.0, (was, h.1.1))
            | inr own ↦ inr (sym h.1.1 ∙ ap at own)
          ],
        )

    pub some_all : (k : ℕ) → length xs ≤ k → (new : List RowData) → AddsRowsOf g (OfSome (take k xs)) old new → AddsRowsOf g (OfSome xs) old new
    some_all k past new adds = subst (λ (z : List X). AddsRowsOf g (OfSome z) old new) (take_all k xs past) adds

  pub of_numbers : (xs : List ℕ) (old new : List RowData) → AddsRowsOf g (λ u. (x : ℕ) × (Contains xs x × (x ≡ u))) old new → AddsRowsOf g (Contains xs) old new
  of_numbers xs old new adds = adds_as (λ u. (x : ℕ) × (Contains xs x × (x ≡ u))) (Contains xs) (λ u. (λ h. subst (λ k. Contains xs k) h.1.1 h.1.0, λ m. (u, (m, refl)))) old new adds

-- sources of a head
pub body_source : (p : ProblemData) (rule f b : ℕ) → f < length p.points.bodies → b ≡ slice_index p.points.bodies f → (u : ℕ) → (u ≡ b) ↔ IsHeadSource p rule (Nt f) u
body_source p rule f b lt is u = (
  λ e. slice_get-get_or p.points.bodies f 0 lt ∙ ap (λ k. Some k) (sym (e ∙ is)),
  λ at. sym (is ∙ get_or_from_slice_get p.points.bodies f u 0 at),
)

module _ (p : ProblemData) (rule x : ℕ) (pairs : List FlowPair) (are : pairs ≡ filter (λ (f : FlowPair). nat_eq f.rule rule && nat_eq f.param x) p.flow.pairs) where
  test : FlowPair → Bool
  test f = nat_eq f.rule rule && nat_eq f.param x

  pub flow_source : (u : ℕ) → ((f : FlowPair) × (Contains pairs f × (f.point ≡ u))) ↔ IsHeadSource p rule (Var x) u
  flow_source u = (to, from)
    where
      to : ((f : FlowPair) × (Contains pairs f × (f.point ≡ u))) → FlowsTo p rule x u
      to h =
          let m : Contains (filter (λ (f : FlowPair). nat_eq f.rule rule && nat_eq f.param x) p.flow.pairs) h.0 = subst (λ (z : List FlowPair). Contains z h.0) are h.1.0 in
          let passes = and_parts (nat_eq h.0.rule rule) (nat_eq h.0.param x) (filter_passes (λ (f : FlowPair). nat_eq f.rule rule && nat_eq f.param x) p.flow.pairs h.0 m) in
          let is : h.0 ≡ record { rule = rule; param = x; point = u } = λ i. record { rule = eqb-true h.0.rule rule passes.0 i; param = eqb-true h.0.param x passes.1 i; point = h.1.1 i } in
          subst (λ (f : FlowPair). Contains p.flow.pairs f) is (filter_has (λ (f : FlowPair). nat_eq f.rule rule && nat_eq f.param x) p.flow.pairs h.0 m)

      from : FlowsTo p rule x u → (f : FlowPair) × (Contains pairs f × (f.point ≡ u))
      from flows = (
        record { rule = rule; param = x; point = u },
        (
          subst (λ (z : List FlowPair). Contains z (record { rule = rule; param = x; point = u })) (sym are)
              (filter_keeps (λ (f : FlowPair). nat_eq f.rule rule && nat_eq f.param x) p.flow.pairs (record { rule = rule; param = x; point = u }) both flows),
          refl,
        ),
      )
        where
          both : (nat_eq rule rule && nat_eq x x) ≡ true
          both = ap (λ (t : Bool). t && nat_eq x x) (eq-eqb rule rule refl) ∙ eq-eqb x x refl

-- all of them, in any order
pub gathered_all : (g : GrowingData) (point : ℕ) (empty rows new : List RowData) → empty ≡ [] → AddsRowsOf g (IsSource g.problem (point_at g.problem.points point)) empty rows → IsPermutation rows new → IsGathered g point new
gathered_all g point empty rows new is adds moved r = (
  λ m. elim ((adds r).0 (Contains-permutation new rows r (IsPermutation-sym rows new moved) m)) [
    | inl was ↦ absurd (none_in r (subst (λ (z : List RowData). Contains z r) is was))
    | inr h ↦ h
  ],
  λ h. Contains-permutation rows new r moved ((adds r).1 (inr h)),
)
