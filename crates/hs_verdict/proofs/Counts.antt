-- How many arguments a term of sort o has, and what a full rule makes of as many terms as it has parameters.
use Rattle.std.proofs.Common.{◌≡◌, ◌∙◌, ℕ, List, length, slice_get, Some, arith}
use Rattle.std.proofs.lemmas.List.{take_all, drop_all}
use Rattle.hs_scheme.specs.declared.term.Head.{Head}
use Rattle.hs_scheme.specs.declared.term.Head.TheVariants.{Nt, Tm}
use Rattle.hs_scheme.specs.declared.term.Rule.{Rule}
use Rattle.hs_scheme.specs.Tree.{Tree, Trees, node, children, forest}
use Rattle.hs_scheme.specs.acceptance.Replacement.{subst, applied}
use Rattle.hs_scheme.specs.acceptance.Cut.{body_of}
use Rattle.hs_scheme.specs.sorting.Sorting.{ranked, Sorts}
use Rattle.hs_scheme.specs.sorting.Sorted.{sorts_of, sort_at, known}
use Rattle.hs_scheme.specs.TreeTerms.{ground, IsTreeTerm, AreSortedBy}
use Rattle.hs_scheme.specs.Problem.{ProblemData}
use Rattle.hs_scheme.proofs.Sortings.{length-ranked}
use Rattle.hs_steps.proofs.Terms.{applied-none}
use Rattle.hs_steps.proofs.Sorted.{count}
use Rattle.hs_table.specs.Follows.{rank_of}
use Rattle.hs_verdict.specs.Premises.{IsSortedProblem}

abbrev pub problem_sorts : ProblemData → Sorts
problem_sorts p = sorts_of p.sorted.sorts p.sorted.scheme.ranks

pub sorted_by : (p : ProblemData) → IsSortedProblem p
    → AreSortedBy p.sorted.scheme.rules (length p.sorted.scheme.ranks) (known p.sorted.scheme.ranks) p.sorted.automaton.transitions (problem_sorts p)
sorted_by p given = record { are_rules = given.scheme; sorting = given.sorted.sorting; agree = given.sorted.ranks }

pub terminal_count : (p : ProblemData) (a : ℕ) (us : Trees Head) → IsTreeTerm (problem_sorts p) (node (Tm a) us) → length (children us) ≡ rank_of p a
terminal_count p a us h = count (ground (problem_sorts p)) us (ranked (rank_of p a)) h ∙ length-ranked (rank_of p a)

-- the rules are full
pub nonterminal_count : (p : ProblemData) → IsSortedProblem p → (f : ℕ) (r : Rule) (us : Trees Head) → slice_get p.sorted.scheme.rules f ≡ Some r
    → IsTreeTerm (problem_sorts p) (node (Nt f) us) → length (children us) ≡ r.params
nonterminal_count p given f r us at h = count (ground (problem_sorts p)) us (sort_at p.sorted.sorts f) h ∙ given.sorted.full f r at

pub full_body : (r : Rule) (us : List (Tree Head)) → length us ≡ r.params → body_of r us ≡ subst r.body us
full_body r us long =
    (λ i. applied (subst r.body (take_all r.params us (omega (arith, long)) i)) (forest (drop_all r.params us (omega (arith, long)) i)))
    ∙ applied-none (subst r.body us)
