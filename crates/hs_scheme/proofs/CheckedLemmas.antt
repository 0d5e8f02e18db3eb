-- Terms in range, argument by argument.
use Rattle.std.proofs.Common.{◌≡◌, sym, ◌∙◌, ap, subst, ℕ, zero, suc, ◌+◌, ◌<◌, ◌≤◌, List, [], ◌∷◌, ◌++◌, length, get_or, take, arith}
use Rattle.std.proofs.lemmas.List.{take_more, take_all}
use Rattle.hs_scheme.specs.declared.term.Head.{Head}
use Rattle.hs_scheme.specs.Tree.{Tree, node, forest, children-forest}
use Rattle.hs_scheme.specs.Scheme.{HeadInRange, TermInRange, TermsInRange}

module _ (params rules terminals : ℕ) where
  row_push : (us : List (Tree Head)) (u : Tree Head) → TermsInRange params rules terminals (forest us) → TermInRange params rules terminals u → TermsInRange params rules terminals (forest (us ++ u ∷ []))
  row_push [] u r s = (s, tt)
  row_push (v ∷ us) u r s = (r.0, row_push us u r.1 s)

  row_at : (us : List (Tree Head)) (i : ℕ) (u : Tree Head) → i < length us → u ≡ get_or us i u → TermsInRange params rules terminals (forest us) → TermInRange params rules terminals u
  row_at [] i u lt is r = absurd (omega arith)
  row_at (v ∷ us) zero u lt is r = subst (TermInRange params rules terminals) (sym is) r.0
  row_at (v ∷ us) (suc i) u lt is r = row_at us i u (omega arith) is r.1

  pub row_more : (us : List (Tree Head)) (i : ℕ) (u : Tree Head) → i < length us → u ≡ get_or us i u → TermsInRange params rules terminals (forest (take i us)) → TermInRange params rules terminals u
      → TermsInRange params rules terminals (forest (take (i + 1) us))
  row_more us i u lt is r s =
      subst (λ (vs : List (Tree Head)). TermsInRange params rules terminals (forest vs)) (sym (take_more us i u lt ∙ ap (λ v. take i us ++ v ∷ []) (sym is))) (row_push (take i us) u r s)

  -- a term that is read as its head and the list of its arguments
  module _ (term : Tree Head) (h : Head) (us : List (Tree Head)) (is : node h (forest us) ≡ term) where
    opened : TermInRange params rules terminals term → TermInRange params rules terminals (node h (forest us))
    opened r = subst (TermInRange params rules terminals) (sym is) r

    pub head_of : TermInRange params rules terminals term → HeadInRange params rules terminals h
    head_of r = (opened r).0

    pub few_of : TermInRange params rules terminals term → length us ≤ 64
    few_of r = subst (λ (vs : List (Tree Head)). length vs ≤ 64) (children-forest us) (opened r).1

    pub arg_of : (i : ℕ) (u : Tree Head) → i < length us → u ≡ get_or us i u → TermInRange params rules terminals term → TermInRange params rules terminals u
    arg_of i u lt same r = row_at us i u lt same (opened r).2

    pub whole : (i : ℕ) → length us ≤ i → HeadInRange params rules terminals h → length us ≤ 64 → TermsInRange params rules terminals (forest (take i us)) → TermInRange params rules terminals term
    whole i all head few row = subst (TermInRange params rules terminals) is
        (head, subst (λ (vs : List (Tree Head)). length vs ≤ 64) (sym (children-forest us)) few, subst (λ (vs : List (Tree Head)). TermsInRange params rules terminals (forest vs)) (take_all i us all) row)
