-- Steps of terms whose arguments are two lists.
use Rattle.std.proofs.Common.{◌≡◌, refl, sym, ◌∙◌, ap, ℕ, ◌+◌, List, [], ◌∷◌, ◌++◌, length, slice_get, Some, arith}
use Rattle.hs_scheme.specs.declared.term.Head.{Head}
use Rattle.hs_scheme.specs.declared.term.Head.TheVariants.{Nt, Tm}
use Rattle.hs_scheme.specs.declared.term.Rule.{Rule}
use Rattle.hs_scheme.specs.acceptance.Transition.{TransitionData}
use Rattle.hs_scheme.specs.acceptance.Automaton.{next}
use Rattle.hs_scheme.specs.Tree.{Tree, node, join, children, forest, forest-append, children-forest}
use Rattle.hs_scheme.specs.acceptance.Replacement.{subst}
use Rattle.hs_scheme.specs.acceptance.Cut.{unfolded}
use Rattle.hs_scheme.specs.acceptance.Steps.{StepsTo}
use Rattle.hs_steps.proofs.Terms.{unfolds}
use Rattle.hs_verdict.proofs.Counts.{full_body}

children_join : (us vs : List (Tree Head)) → children (join (forest us) (forest vs)) ≡ us ++ vs
children_join us vs = ap children (sym (forest-append us vs)) ∙ children-forest (us ++ vs)

module _ (rules : List Rule) (ts : List TransitionData) (us vs : List (Tree Head)) where
  pub replacement : (q f : ℕ) (rule : Rule) → slice_get rules f ≡ Some rule → length (us ++ vs) ≡ rule.params
      → StepsTo rules ts q (node (Nt f) (join (forest us) (forest vs))) [] q (subst rule.body (us ++ vs))
  replacement q f rule at long = (
    refl,
    refl,
    ap (λ ws. unfolded rules f ws) (children_join us vs)
        ∙ (unfolds rules f rule (us ++ vs) at (omega (arith, long)) ∙ ap (λ t. Some t) (full_body rule (us ++ vs) long)),
  )

  pub descent : (q a : ℕ) (qs : List ℕ) (place child r : ℕ) (d : Tree Head) → next ts q a ≡ Some qs → slice_get qs place ≡ Some r → slice_get (us ++ vs) place ≡ Some d
      → child ≡ place + 1 → StepsTo rules ts q (node (Tm a) (join (forest us) (forest vs))) ((a, child) ∷ []) r d
  descent q a qs place child r d there at at_d counted =
      (qs, there, record { place = place; labelled = ap (λ n. (a, n) ∷ []) counted; state = at; term = ap (λ ws. slice_get ws place) (children_join us vs) ∙ at_d })
