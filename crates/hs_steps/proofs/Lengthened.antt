-- A lengthened rule makes of a term of sort o what the rule itself makes of it.
use Rattle.std.proofs.Common.{◌≡◌, sym, ◌∙◌, ap, ℕ, zero, suc, ◌+◌, ◌≤◌, List, [], ◌∷◌, length, slice_get, Option, Some, None, inl, inr, arith}
use Rattle.std.proofs.lemmas.Option.{slice_get_cases, same_Some}
use Rattle.std.proofs.lemmas.List.{take_all, drop_all}
use Rattle.hs_scheme.specs.declared.term.Head.{Head}
use Rattle.hs_scheme.specs.declared.term.Head.TheVariants.{Nt}
use Rattle.hs_scheme.specs.declared.term.Rule.{Rule}
use Rattle.hs_scheme.specs.acceptance.Transition.{TransitionData}
use Rattle.hs_scheme.specs.Tree.{Tree, Trees, node, children, forest}
use Rattle.hs_scheme.specs.acceptance.Replacement.{subst, applied}
use Rattle.hs_scheme.specs.acceptance.Cut.{body_of, body_with, unfolded}
use Rattle.hs_scheme.specs.Scheme.{TermInRange}
use Rattle.hs_scheme.specs.sorting.Sorting.{SortTree, arguments, Sorts}
use Rattle.hs_scheme.specs.sorting.Lengthening.{missing, parameters, lengthened, lengthening, AreSortsOf}
use Rattle.hs_scheme.specs.TreeTerms.{ground, IsTreeTerm, AreSortedBy}
use Rattle.hs_steps.proofs.Terms.{applied-none, subst-applied, subst_first, substs-parameters, unfolds}
use Rattle.hs_steps.proofs.Sorted.{body_in_range, has_enough, count}

-- with just as many terms as the lengthened rule has parameters both bodies are equal
lengthened_body : (r : Rule) (d rules terminals : ℕ) (ts : List (Tree Head)) → TermInRange r.params rules terminals r.body → r.params + d ≡ length ts → body_of (lengthened d r) ts ≡ body_of r ts
lengthened_body r d rules terminals ts in_range e =
    let more_terms = parameters r.params d in
    (λ i. applied (subst (applied r.body more_terms) (take_all (r.params + d) ts (omega arith) i)) (forest (drop_all (r.params + d) ts (omega arith) i)))
    ∙ (applied-none (subst (applied r.body more_terms) ts)
    ∙ (subst-applied r.body more_terms ts
    ∙ (λ i. applied (sym (subst_first r.params rules terminals ts r.body in_range) i) (substs-parameters r.params d ts e i))))

lengthening_at : (rules : List Rule) (ks : List SortTree) (f : ℕ) (r : Rule) (k : SortTree) → slice_get rules f ≡ Some r → slice_get ks f ≡ Some k
    → slice_get (lengthening rules ks) f ≡ Some (lengthened (missing r.params k) r)
lengthening_at [] ks f r k at at_k = absurd (cc)
lengthening_at (q ∷ rules) [] f r k at at_k = absurd (cc)
lengthening_at (q ∷ rules) (l ∷ ks) zero r k at at_k =
    let e : q ≡ r = same_Some q r at in let g : l ≡ k = same_Some l k at_k in λ i. Some (lengthened (missing (e i).params (g i)) (e i))
lengthening_at (q ∷ rules) (l ∷ ks) (suc f) r k at at_k = lengthening_at rules ks f r k at at_k

lengthening_past : (rules : List Rule) (ks : List SortTree) (f : ℕ) → slice_get rules f ≡ None → slice_get (lengthening rules ks) f ≡ None
lengthening_past [] ks f at = at
lengthening_past (q ∷ rules) [] f at = at
lengthening_past (q ∷ rules) (l ∷ ks) zero at = absurd (cc)
lengthening_past (q ∷ rules) (l ∷ ks) (suc f) at = lengthening_past rules ks f at

module _ (rules : List Rule) (terminals : ℕ) (ranks : List (Option ℕ)) (ts : List TransitionData) (s : Sorts) (sorted : AreSortedBy rules terminals ranks ts s)
    (ks : List SortTree) (are : AreSortsOf ks rules s) where
  pub unfolded_alike : (f : ℕ) (us : Trees Head) → IsTreeTerm s (node (Nt f) us) → unfolded rules f (children us) ≡ unfolded (lengthening rules ks) f (children us)
  unfolded_alike f us is = elim (slice_get_cases rules f).1 [
    | inr (past, at) ↦ ap (λ o. body_with o (children us)) (at ∙ sym (lengthening_past rules ks f at))
    | inl (r, lt, at, _) ↦ elim (slice_get_cases ks f).1 [
      | inr (past, _) ↦ absurd (omega (arith, past, lt, are.each_rule))
      | inl (k, _, at_k, _) ↦
          let enough : r.params ≤ length (children us) = has_enough rules terminals ranks ts s sorted f r us at is in
          let all : length (children us) ≡ length (arguments k) =
          count (ground s) us (s.nonterminal f) is ∙ sym (ap (λ (l : SortTree). length (arguments l)) (are.nonterminals f k at_k)) in
          let d : ℕ = missing r.params k in
          let e : r.params + d ≡ length (children us) = omega arith in
          unfolds rules f r (children us) at enough
          ∙ (ap (λ u. Some u) (sym (lengthened_body r d (length rules) terminals (children us) (body_in_range rules terminals ranks ts s sorted f r at) e))
          ∙ sym (unfolds (lengthening rules ks) f (lengthened d r) (children us) (lengthening_at rules ks f r k at at_k) (omega (arith, e))))
    ]
  ]
