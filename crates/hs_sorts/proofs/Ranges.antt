-- Terms whose heads are in range: which nodes and sorts they depend on.
use Rattle.std.proofs.Common.{◌≡◌, sym, subst, ℕ, ◌<◌}
use Rattle.hs_scheme.specs.declared.term.Head.{Head}
use Rattle.hs_scheme.specs.Tree.{Tree, Trees, node, none, more}
use Rattle.hs_scheme.specs.Scheme.{HeadInRange, TermInRange, TermsInRange}
use Rattle.hs_scheme.specs.sorting.Sorting.{SortTree, HasSort, Applied}
use Rattle.hs_sorts.specs.Constraints.{NodesBelow, AllNodesBelow}

-- sorts that agree on the heads in range give a term the same sorts
module _ (params rules terminals : ℕ) (d e : Head → SortTree) (same : (h : Head) → HeadInRange params rules terminals h → e h ≡ d h) where
  mutual
    pub has_in_range : (t : Tree Head) (k : SortTree) → TermInRange params rules terminals t → HasSort d t k → HasSort e t k
    has_in_range (node h ts) k r p = subst (λ (s : SortTree). Applied e ts s k) (sym (same h r.0)) (applied_in_range ts (d h) k r.2 p)

    applied_in_range : (ts : Trees Head) (f k : SortTree) → TermsInRange params rules terminals ts → Applied d ts f k → Applied e ts f k
    applied_in_range none f k r p = p
    applied_in_range (more t ts) f k r (a, b, is, of, rest) = (a, b, is, has_in_range t a r.0 of, applied_in_range ts b k r.1 rest)

module _ (params rules terminals count : ℕ) (at : Head → ℕ) (low : (h : Head) → HeadInRange params rules terminals h → at h < count) where
  mutual
    pub term_below : (t : Tree Head) → TermInRange params rules terminals t → NodesBelow at count t
    term_below (node h ts) r = (low h r.0, terms_below ts r.2)

    terms_below : (ts : Trees Head) → TermsInRange params rules terminals ts → AllNodesBelow at count ts
    terms_below none r = tt
    terms_below (more t ts) r = (term_below t r.0, terms_below ts r.1)
