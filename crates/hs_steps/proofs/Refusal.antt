-- How a cut comes to be refused, step by step.
use Rattle.std.proofs.Common.{◌≡◌, ◌≢◌, refl, sym, ◌∙◌, ap, ℕ, zero, suc, ◌+◌, true, false, ◌&&◌, nat_eq, List, [], ◌∷◌, length, slice_get, Option, Some, None, ◌⊎◌, inl, inr, add-one, arith}
use Rattle.std.specs.Option.{option_map_or}
use Rattle.std.proofs.lemmas.Bool.{eqb-true, eqb-false}
use Rattle.std.proofs.lemmas.Option.{same_Some}
use Rattle.std.proofs.Math.Bool.{and-false}
use Rattle.hs_scheme.specs.declared.term.Head.{Head}
use Rattle.hs_scheme.specs.declared.term.Head.TheVariants.{Var, Nt, Tm}
use Rattle.hs_scheme.specs.declared.term.Rule.{Rule}
use Rattle.hs_scheme.specs.acceptance.Transition.{TransitionData}
use Rattle.hs_scheme.specs.acceptance.Automaton.{next}
use Rattle.hs_scheme.specs.Tree.{Tree, Trees, node, none, more, children, each}
use Rattle.hs_scheme.specs.acceptance.Cut.{CutTree, undefined, cut, unfolded}
use Rattle.hs_scheme.specs.acceptance.Run.{run, runs}
use Rattle.hs_scheme.specs.acceptance.Steps.{Path, StepsTo, IsStuck, LeadsTo}

module _ (ts : List TransitionData) (go : Tree Head → CutTree) where
  -- one refused child refuses the row
  refused_at : (us : Trees Head) (qs : List ℕ) (i q : ℕ) (u : Tree Head) → slice_get qs i ≡ Some q → slice_get (children us) i ≡ Some u → run ts q (go u) ≡ false
      → runs ts (each go us) qs ≡ false
  refused_at none qs i q u s t h = absurd (cc)
  refused_at (more v us) [] i q u s t h = refl
  refused_at (more v us) (p ∷ qs) zero q u s t h =
      let e : p ≡ q = same_Some p q s in let f : v ≡ u = same_Some v u t in
      ap (λ b. b && runs ts (each go us) qs) (ap (λ r. run ts r (go v)) e ∙ (ap (λ w. run ts q (go w)) f ∙ h))
  refused_at (more v us) (p ∷ qs) (suc i) q u s t h =
      ap (λ b. run ts p (go v) && b) (refused_at us qs i q u s t h) ∙ and-false (run ts p (go v))

  -- so does another number of children
  refused_length : (us : Trees Head) (qs : List ℕ) → length qs ≢ length (children us) → runs ts (each go us) qs ≡ false
  refused_length none [] h = absurd (h refl)
  refused_length none (q ∷ qs) h = refl
  refused_length (more u us) [] h = refl
  refused_length (more u us) (q ∷ qs) h = ap (λ b. run ts q (go u) && b) (refused_length us qs (λ e. h (ap suc e))) ∙ and-false (run ts q (go u))

  -- a row of the right length is refused only by a child
  pub record Child (us : Trees Head) (qs : List ℕ) : Type 0 where
    pub place : ℕ
    pub state : ℕ
    pub term : Tree Head
    pub has_state : slice_get qs place ≡ Some state
    pub has_term : slice_get (children us) place ≡ Some term
    pub refused : run ts state (go term) ≡ false

  refused_child : (us : Trees Head) (qs : List ℕ) → length qs ≡ length (children us) → runs ts (each go us) qs ≡ false → Child us qs
  refused_child none [] e h = absurd (cc)
  refused_child none (q ∷ qs) e h = absurd (omega arith)
  refused_child (more u us) [] e h = absurd (omega arith)
  refused_child (more u us) (q ∷ qs) e h =
      elim (run ts q (go u)) as (λ b. run ts q (go u) ≡ b → b && runs ts (each go us) qs ≡ false → Child (more u us) (q ∷ qs)) [
        | true ↦ λ f g. let c = refused_child us qs (omega arith) g in
            record { place = suc c.place; state = c.state; term = c.term; has_state = c.has_state; has_term = c.has_term; refused = c.refused }
        | false ↦ λ f g. record { place = 0; state = q; term = u; has_state = refl; has_term = refl; refused = f }
      ] refl h

module _ (rules : List Rule) (ts : List TransitionData) where
  stuck_at : (n q : ℕ) (t : Tree Head) → IsStuck ts q t → run ts q (cut rules (suc n) t) ≡ false
  stuck_at n q (node (Var j) us) h = absurd h
  stuck_at n q (node (Nt f) us) h = absurd h
  stuck_at n q (node (Tm a) us) (inl e) = ap (λ o. option_map_or (runs ts (each (cut rules n) us)) o false) e
  stuck_at n q (node (Tm a) us) (inr (qs, e, other)) =
      ap (λ o. option_map_or (runs ts (each (cut rules n) us)) o false) e ∙ refused_length ts (cut rules n) us qs other

  step_at : (n q p : ℕ) (t u : Tree Head) (label : Path) → StepsTo rules ts q t label p u → run ts p (cut rules n u) ≡ false → run ts q (cut rules (suc n) t) ≡ false
  step_at n q p (node (Var j) us) u label s h = absurd s
  step_at n q p (node (Nt f) us) u label (silent, same, goes) h =
      ap (λ o. run ts q (option_map_or (cut rules n) o undefined)) goes ∙ (ap (λ r. run ts r (cut rules n u)) (sym same) ∙ h)
  step_at n q p (node (Tm a) us) u label (qs, e, child) h =
      ap (λ o. option_map_or (runs ts (each (cut rules n) us)) o false) e ∙ refused_at ts (cut rules n) us qs child.place p u child.state child.term h

  abbrev Only : ℕ → ℕ → Tree Head → Type 0
  Only n q t = IsStuck ts q t ⊎ ((path : Path) × LeadsTo rules ts (λ p u rest. run ts p (cut rules n u) ≡ false) q t path)

  only_row : (n q a : ℕ) (us : Trees Head) (o : Option (List ℕ)) → next ts q a ≡ o → option_map_or (runs ts (each (cut rules n) us)) o false ≡ false → Only n q (node (Tm a) us)
  only_row n q a us None e h = inl (inl e)
  only_row n q a us (Some qs) e h =
      elim (nat_eq (length qs) (length (children us))) as (λ b. nat_eq (length qs) (length (children us)) ≡ b → Only n q (node (Tm a) us)) [
        | true ↦ λ f. let c = refused_child ts (cut rules n) us qs (eqb-true _ _ f) h in
            inr (
              (a, c.place + 1) ∷ [],
              record {
                label = (a, c.place + 1) ∷ [];
                rest = [];
                state = c.state;
                term = c.term;
                whole = refl;
                step = (qs, e, record { place = c.place; labelled = refl; state = c.has_state; term = c.has_term });
                holds = c.refused;
              },
            )
        | false ↦ λ f. inl (inr (qs, e, eqb-false _ _ f))
      ] refl

  only_body : (n q f : ℕ) (us : Trees Head) (o : Option (Tree Head)) → unfolded rules f (children us) ≡ o → run ts q (option_map_or (cut rules n) o undefined) ≡ false → Only n q (node (Nt f) us)
  only_body n q f us None e h = absurd (cc)
  only_body n q f us (Some u) e h = inr ([], record { label = []; rest = []; state = q; term = u; whole = refl; step = (refl, refl, e); holds = h })

  only_at : (n q : ℕ) (t : Tree Head) → run ts q (cut rules (suc n) t) ≡ false → Only n q t
  only_at n q (node (Var j) us) h = absurd (cc)
  only_at n q (node (Nt f) us) h = only_body n q f us (unfolded rules f (children us)) refl h
  only_at n q (node (Tm a) us) h = only_row n q a us (next ts q a) refl h

  pub stuck_refused : (n q : ℕ) (t : Tree Head) → IsStuck ts q t → run ts q (cut rules (n + 1) t) ≡ false
  stuck_refused n q t h = rw add-one (stuck_at n q t h)

  pub step_refused : (n q p : ℕ) (t u : Tree Head) (label : Path) → StepsTo rules ts q t label p u → run ts p (cut rules n u) ≡ false → run ts q (cut rules (n + 1) t) ≡ false
  step_refused n q p t u label s h = rw add-one (step_at n q p t u label s h)

  pub refused_only : (n q : ℕ) (t : Tree Head) → run ts q (cut rules (n + 1) t) ≡ false → Only n q t
  refused_only n q t h = only_at n q t (rw add-one at h)

  -- a longer cut is refused where a shorter one is
  grows : (n q : ℕ) (t : Tree Head) → run ts q (cut rules n t) ≡ false → run ts q (cut rules (suc n) t) ≡ false
  grows zero q t h = absurd (cc)
  grows (suc n) q t h = elim (only_at n q t h) [
    | inl stuck ↦ stuck_at (suc n) q t stuck
    | inr (path, l) ↦ step_at (suc n) q l.state t l.term l.label l.step (grows n l.state l.term l.holds)
  ]

  pub refused_longer : (n q : ℕ) (t : Tree Head) → run ts q (cut rules n t) ≡ false → run ts q (cut rules (n + 1) t) ≡ false
  refused_longer n q t h = rw add-one (grows n q t h)
