-- Works that are pending, and what is under tickets.
use Rattle.std.proofs.Common.{◌≡◌, refl, ap, sym, ◌∙◌, subst, ℕ, true, eqb, List, [], ◌∷◌, Option, Contains, ◌⊎◌, inl, inr}
use Rattle.std.proofs.lemmas.Bool.{cases_Bool, cases_eq, eqb-true, eq-eqb, ne_eqb, cond-true, cond-false}
use Rattle.hs_scheme.proofs.Lists.{here, later, uncons}
use Rattle.hs_history.specs.declared.step.Work.{Work}
use Rattle.hs_history.specs.declared.step.Work.TheVariants.{Seed, Place}
use Rattle.hs_history.specs.declared.step.Flight.{Flight}
use Rattle.hs_history.specs.CoreStep.{is_work, without, put}

pub is_work_same : (w v : Work) → is_work w v ≡ true → w ≡ v
is_work_same (Seed p) (Seed q) e = ap (λ n. Seed n) (eqb-true p q e)
is_work_same (Seed p) (Place j) e = absurd (cc)
is_work_same (Place i) (Seed q) e = absurd (cc)
is_work_same (Place i) (Place j) e = ap (λ n. Place n) (eqb-true i j e)

pub is_work_itself : (w : Work) → is_work w w ≡ true
is_work_itself (Seed p) = eq-eqb p p refl
is_work_itself (Place i) = eq-eqb i i refl

-- the first of them goes
pub without_first : (w : Work) (vs : List Work) → without w (w ∷ vs) ≡ vs
without_first w vs = cond-true (is_work w w) vs (w ∷ without w vs) (is_work_itself w)

pub without_or : (w v : Work) (vs : List Work) → Contains vs v → (v ≡ w) ⊎ Contains (without w vs) v
without_or w v [] c = inr c
without_or w v (x ∷ vs) c = elim (cases_Bool (is_work w x)) [
  | inl same ↦ elim (uncons x v vs c) [
    | inl is ↦ inl (is ∙ sym (is_work_same w x same))
    | inr there ↦ inr (subst (λ ws. Contains ws v) (sym (cond-true (is_work w x) vs (x ∷ without w vs) same)) there)
  ]
  | inr other ↦
      let goes : without w (x ∷ vs) ≡ x ∷ without w vs = cond-false (is_work w x) vs (x ∷ without w vs) other in
      elim (uncons x v vs c) [
        | inl is ↦ inr (subst (λ ws. Contains ws v) (sym goes) (subst (λ z. Contains (x ∷ without w vs) z) (sym is) (here x (without w vs))))
        | inr there ↦ elim (without_or w v vs there) [
          | inl is ↦ inl is
          | inr left ↦ inr (subst (λ ws. Contains ws v) (sym goes) (later x v (without w vs) left))
        ]
      ]
]

pub without_less : (w v : Work) (vs : List Work) → Contains (without w vs) v → Contains vs v
without_less w v [] c = c
without_less w v (x ∷ vs) c = elim (cases_Bool (is_work w x)) [
  | inl same ↦ later x v vs (subst (λ ws. Contains ws v) (cond-true (is_work w x) vs (x ∷ without w vs) same) c)
  | inr other ↦ elim (uncons x v (without w vs) (subst (λ ws. Contains ws v) (cond-false (is_work w x) vs (x ∷ without w vs) other) c)) [
    | inl is ↦ subst (λ z. Contains (x ∷ vs) z) (sym is) (here x vs)
    | inr there ↦ later x v vs (without_less w v vs there)
  ]
]

pub put_here : (ticket : ℕ) (flown : Option Flight) (flight : ℕ → Option Flight) → put ticket flown flight ticket ≡ flown
put_here ticket flown flight = cond-true (eqb ticket ticket) flown (flight ticket) (eq-eqb ticket ticket refl)

pub put_other : (ticket other : ℕ) (flown : Option Flight) (flight : ℕ → Option Flight) → (other ≡ ticket → ⊥) → put ticket flown flight other ≡ flight other
put_other ticket other flown flight ne = cond-false (eqb other ticket) flown (flight other) (ne_eqb other ticket ne)

-- what is there now was put there or was there
pub put_cases : (ticket other : ℕ) (flown : Option Flight) (flight : ℕ → Option Flight) (found : Option Flight) → put ticket flown flight other ≡ found
    → ((other ≡ ticket) × (flown ≡ found)) ⊎ ((other ≡ ticket → ⊥) × (flight other ≡ found))
put_cases ticket other flown flight found e = elim (cases_eq other ticket) [
  | inl same ↦ inl (same, sym (cond-true (eqb other ticket) flown (flight other) (eq-eqb other ticket same)) ∙ e)
  | inr ne ↦ inr (ne, sym (put_other ticket other flown flight ne) ∙ e)
]
