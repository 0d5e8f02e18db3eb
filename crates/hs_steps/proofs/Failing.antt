-- A refused cut of a sorted term has a failing path, and the other way round.
use Rattle.std.proofs.Common.{◌≡◌, refl, sym, ℕ, zero, suc, ◌+◌, ◌≤◌, Bool, true, false, IsTrue, List, [], ◌++◌, Option, inl, inr, add-one, arith}
use Rattle.std.proofs.Math.Nat.{eq-or-lt_of_le}
use Rattle.std.proofs.Common.{subst as along}
use Rattle.hs_scheme.specs.declared.term.Head.{Head}
use Rattle.hs_scheme.specs.declared.term.Head.TheVariants.{Var, Nt, Tm}
use Rattle.hs_scheme.specs.declared.term.Rule.{Rule}
use Rattle.hs_scheme.specs.acceptance.Transition.{TransitionData}
use Rattle.hs_scheme.specs.Tree.{Tree, node}
use Rattle.hs_scheme.specs.acceptance.Cut.{cut}
use Rattle.hs_scheme.specs.acceptance.Run.{run, start, Accepts}
use Rattle.hs_scheme.specs.sorting.Sorting.{Sorts}
use Rattle.hs_scheme.specs.acceptance.Steps.{Path, HasNoTransition, IsStuck, Fails}
use Rattle.hs_scheme.specs.TreeTerms.{IsTreeTerm, AreSortedBy}
use Rattle.hs_steps.specs.Failing.{FailsWithin}
use Rattle.hs_steps.proofs.Refusal.{stuck_refused, step_refused, refused_only, refused_longer}
use Rattle.hs_steps.proofs.Sorted.{as_many, start_sorted, step_sorted}

pub not_refused : (b : Bool) → (b ≡ false → ⊥) → IsTrue b
not_refused true h = refl
not_refused false h = absurd (h refl)

pub not_both : (b : Bool) → IsTrue b → b ≡ false → ⊥
not_both true t e = (cc)
not_both false t e = (cc)

module _ (rules : List Rule) (ts : List TransitionData) where
  missing_stuck : (q : ℕ) (t : Tree Head) → HasNoTransition ts q t → IsStuck ts q t
  missing_stuck q (node (Var j) us) h = h
  missing_stuck q (node (Nt f) us) h = h
  missing_stuck q (node (Tm a) us) h = inl h

  -- a failing path refuses a cut
  fails_refused : (m q : ℕ) (t : Tree Head) (path : Path) → Fails rules ts m q t path → run ts q (cut rules (m + 1) t) ≡ false
  fails_refused zero q t path (e, h) = stuck_refused rules ts 0 q t (missing_stuck q t h)
  fails_refused (suc m) q t path l =
      step_refused rules ts (suc m) q l.state t l.term l.label l.step (rw add-one at (fails_refused m l.state l.term l.rest l.holds))

  refused_later : (n m q : ℕ) (t : Tree Head) → m ≤ n → run ts q (cut rules m t) ≡ false → run ts q (cut rules n t) ≡ false
  refused_later zero m q t le h = let e : m ≡ 0 = omega arith in along (λ k. run ts q (cut rules k t) ≡ false) e h
  refused_later (suc n) m q t le h = elim (eq-or-lt_of_le le) [
    | inl e ↦ along (λ k. run ts q (cut rules k t) ≡ false) e h
    | inr lt ↦ rw add-one at (refused_longer rules ts n q t (refused_later n m q t (omega arith) h))
  ]

  pub within_refused : (n q : ℕ) (t : Tree Head) → FailsWithin rules ts n q t → run ts q (cut rules (n + 1) t) ≡ false
  within_refused n q t (path, m, le, fails) = refused_later (n + 1) (m + 1) q t (omega arith) (fails_refused m q t path fails)

  module _ (terminals : ℕ) (ranks : List (Option ℕ)) (s : Sorts) (sorted : AreSortedBy rules terminals ranks ts s) where
    stuck_missing : (q : ℕ) (t : Tree Head) → IsTreeTerm s t → IsStuck ts q t → HasNoTransition ts q t
    stuck_missing q (node (Var j) us) k h = h
    stuck_missing q (node (Nt f) us) k h = h
    stuck_missing q (node (Tm a) us) k (inl e) = e
    stuck_missing q (node (Tm a) us) k (inr (qs, e, other)) = absurd (other (sym (as_many rules terminals ranks ts s sorted q a qs us e k)))

    not_at_no_step : (p : ℕ) (u : Tree Head) → run ts p (cut rules 0 u) ≡ false → ⊥
    not_at_no_step p u h = (cc)

    refused_at : (n q : ℕ) (t : Tree Head) → IsTreeTerm s t → run ts q (cut rules (suc n) t) ≡ false → FailsWithin rules ts n q t
    refused_at zero q t k h = elim (refused_only rules ts 0 q t h) [
      | inl stuck ↦ ([], 0, omega arith, (refl, stuck_missing q t k stuck))
      | inr (path, l) ↦ absurd (not_at_no_step l.state l.term l.holds)
    ]
    refused_at (suc n) q t k h = elim (refused_only rules ts (suc n) q t (rw add-one h)) [
      | inl stuck ↦ ([], 0, omega arith, (refl, stuck_missing q t k stuck))
      | inr (path, l) ↦
          let r = refused_at n l.state l.term (step_sorted rules terminals ranks ts s sorted q l.state t l.term l.label l.step k) l.holds in
          (l.label ++ r.0, suc r.1, omega (arith, r.2), record { label = l.label; rest = r.0; state = l.state; term = l.term; whole = refl; step = l.step; holds = r.3 })
    ]

    pub refused_within : (n q : ℕ) (t : Tree Head) → IsTreeTerm s t → run ts q (cut rules (n + 1) t) ≡ false → FailsWithin rules ts n q t
    refused_within n q t k h = refused_at n q t k (rw add-one at h)

    pub accepted_without_failure : ((n : ℕ) (path : Path) → Fails rules ts n 0 start path → ⊥) → Accepts rules ts
    accepted_without_failure none_fails zero = refl
    accepted_without_failure none_fails (suc n) = not_refused (run ts 0 (cut rules (suc n) start)) (λ h.
        let f = refused_at n 0 start (start_sorted rules terminals ranks ts s sorted) h in none_fails f.1 f.0 f.3)

  pub no_failure_accepted : Accepts rules ts → (n : ℕ) (path : Path) → Fails rules ts n 0 start path → ⊥
  no_failure_accepted accepts n path f = not_both (run ts 0 (cut rules (n + 1) start)) (accepts (n + 1)) (fails_refused n 0 start path f)
