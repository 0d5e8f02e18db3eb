-- Logs that grow at their end.
use Rattle.std.proofs.Common.{◌≡◌, ◌≢◌, ap, sym, ◌∙◌, subst, ℕ, zero, suc, ◌+◌, ◌<◌, List, [], ◌∷◌, ◌++◌, length, take, slice_get, Some, arith, Contains, length-append, ◌⊎◌, inl, inr}
use Rattle.std.proofs.lemmas.Bool.{cases_lt}
use Rattle.std.proofs.lemmas.List.{take-append-le}
use Rattle.std.proofs.Math.Seq.{take-append_seam}
use Rattle.std.proofs.lemmas.List.Elements.{Contains-append_left, Contains-get_or}
use Rattle.std.proofs.lemmas.List.Quantifiers.{all_pairs_push}
use Rattle.hs_scheme.specs.Problem.{ProblemData}
use Rattle.hs_scheme.proofs.Lists.{push_cases}
use Rattle.hs_table.specs.Entries.{EntryData}
use Rattle.hs_table.specs.Follows.{Support, FollowsBy}
use Rattle.hs_table.specs.Tables.{HasSupports}
use Rattle.hs_table_laws.proofs.Places.{within_from}
use Rattle.hs_history.specs.CoreStep.{IsClosedWork}
use Rattle.hs_history.specs.declared.step.Work.{Work}
use Rattle.hs_history.specs.declared.step.Work.TheVariants.{Seed, Place}
use Rattle.hs_history.specs.History.{IsWork}

pub at_within : {X : Type 0} (xs ys : List X) (i : ℕ) (x : X) → i < length xs → slice_get (xs ++ ys) i ≡ Some x → slice_get xs i ≡ Some x
at_within [] ys i x lt e = absurd (omega arith)
at_within (z ∷ xs) ys zero x lt e = e
at_within (z ∷ xs) ys (suc i) x lt e = at_within xs ys i x (omega arith) e

module _ (p : ProblemData) where
  pub supports_more : (log : List EntryData) (supports : List Support) (e : EntryData) (s : Support) → HasSupports p log supports
      → (Contains log e → ⊥) → FollowsBy p log s e → HasSupports p (log ++ e ∷ []) (supports ++ s ∷ [])
  supports_more log supports e s h new follows = record {
    distinct = all_pairs_push (λ a b. a ≢ b) log e h.distinct (λ k d lt same. new (subst (λ x. Contains log x) same (Contains-get_or log k d lt)));
    each = omega (arith, h.each, length-append supports (s ∷ []), length-append log (e ∷ []));
    follows = λ i t x support_at at. elim (push_cases supports s t i support_at) [
      | inl before ↦
          let lt : i < length log = omega (arith, h.each, within_from supports i t before) in
          subst (λ front. FollowsBy p front t x) (sym (take-append-le i log (e ∷ []) (omega arith))) (h.follows i t x before (at_within log (e ∷ []) i x lt at))
      | inr last ↦
          let end : i ≡ length log = last.0 ∙ h.each in
          let is : x ≡ e = elim (push_cases log e x i at) [ inl there ↦ absurd (omega (arith, within_from log i x there)) | inr last ↦ sym last.1 ] in
          let front : take i (log ++ e ∷ []) ≡ log = ap (λ n. take n (log ++ e ∷ [])) end ∙ take-append_seam log (e ∷ []) in
          subst (λ z. FollowsBy p (take i (log ++ e ∷ [])) z x) last.1
          (subst (λ z. FollowsBy p (take i (log ++ e ∷ [])) s z) (sym is) (subst (λ E. FollowsBy p E s e) (sym front) follows))
    ];
  }

  pub work_more : (log : List EntryData) (e : EntryData) (w : Work) → IsWork p log w → IsWork p (log ++ e ∷ []) w
  work_more log e (Seed point) h = h
  work_more log e (Place i) h = omega (arith, length-append log (e ∷ []))

  pub work_cases : (log : List EntryData) (e : EntryData) (w : Work) → IsWork p (log ++ e ∷ []) w → IsWork p log w ⊎ (w ≡ Place (length log))
  work_cases log e (Seed point) h = inl h
  work_cases log e (Place i) h = elim (cases_lt i (length log)) [
    | inl below ↦ inl below
    | inr above ↦ inr (ap (λ n. Place n) (omega (arith, length-append log (e ∷ []))))
  ]

  pub closed_more : (log more : List EntryData) (w : Work) → IsWork p log w → IsClosedWork p log w → IsClosedWork p (log ++ more) w
  closed_more log more (Seed point) h closed = λ x is follows. Contains-append_left log more x (closed x is follows)
  closed_more log more (Place i) h closed = λ at x s here depends follows among.
      let front : take (i + 1) (log ++ more) ≡ take (i + 1) log = take-append-le (i + 1) log more (omega arith) in
      Contains-append_left log more x (closed at x s (at_within log more i at h here) depends (subst (λ E. FollowsBy p E s x) front follows) among)
