-- The tree of a file is accepted where that of its problem is.
use Rattle.std.proofs.Common.{List, ℕ, length, Ok, subst}
use Rattle.hs_scheme.specs.Problem.{ProblemData}
use Rattle.hs_scheme.specs.sorting.Sorted.{SortedData, sorts_of}
use Rattle.hs_scheme.specs.sorting.Unsorted.{UnsortedData}
use Rattle.hs_scheme.specs.acceptance.Run.{Accepts}
use Rattle.hs_scheme.specs.TreeTerms.{AreSortedBy}
use Rattle.hs_steps.specs.Lengthened.{IsLengthened}
use Rattle.hs_steps.proofs.Failing.{accepted_without_failure, no_failure_accepted}
use Rattle.hs_steps.proofs.Trees.{failures_of_file}
use Rattle.hs_front.specs.Files.{IsAccepted}
use Rattle.hs_front.specs.Problems.{IsSortedFormOf}
use Rattle.hs_front.specs.Yields.{Yields}

module _ (u : UnsortedData) (form : SortedData) (is : IsSortedFormOf u form) where
  made : IsLengthened u form
  made = record { sorting = is.inferred.least.sorting; rules = is.inferred.rules; automaton = is.inferred.automaton }

  are_sorted : AreSortedBy u.rules (length u.ranks) u.ranks u.automaton.transitions (sorts_of form.sorts form.scheme.ranks)
  are_sorted = record { are_rules = is.unsorted.rules; sorting = made.sorting; agree = is.unsorted.ranks }

  of_form : Accepts form.scheme.rules form.automaton.transitions → Accepts u.rules u.automaton.transitions
  of_form accepts =
      accepted_without_failure u.rules u.automaton.transitions (length u.ranks) u.ranks (sorts_of form.sorts form.scheme.ranks) are_sorted
      (λ n path f.
      no_failure_accepted form.scheme.rules form.automaton.transitions accepts n path
      ((failures_of_file u form is.unsorted is.is_sorted made n path).0 f))

pub accepted_file : (bytes : List ℕ) (p : ProblemData) → Yields bytes (Ok p) → Accepts p.sorted.scheme.rules p.sorted.automaton.transitions → IsAccepted bytes
accepted_file bytes p h accepts = record {
  scheme = h.1.of.scheme;
  of_bytes = h.1.of.of_bytes.of;
  accepts = of_form h.1.of.scheme h.1.form h.1.of.form (subst (λ (s : SortedData). Accepts s.scheme.rules s.automaton.transitions) h.1.holds.same accepts);
}
