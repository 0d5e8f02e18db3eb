-- Acceptance and failing paths, and the laws of a closed table.
use Rattle.std.proofs.Common.{◌≡◌, ℕ, zero, suc, ◌+◌, false, List, length, Option, arith, add-one}
use Rattle.hs_scheme.specs.declared.term.Rule.{Rule}
use Rattle.hs_scheme.specs.acceptance.Transition.{TransitionData}
use Rattle.hs_scheme.specs.acceptance.Cut.{cut}
use Rattle.hs_scheme.specs.acceptance.Run.{run, start, Accepts}
use Rattle.hs_scheme.specs.sorting.Sorted.{known}
use Rattle.hs_scheme.specs.acceptance.Steps.{Path, Fails}
use Rattle.hs_scheme.specs.Problem.{ProblemData}
use Rattle.hs_steps.proofs.Sorted.{start_sorted}
use Rattle.hs_steps.proofs.Failing.{refused_within, within_refused, not_refused, not_both}
use Rattle.hs_table.specs.Entries.{EntryData}
use Rattle.hs_table.specs.Tables.{IsClosedTable, HasStart}
use Rattle.hs_verdict.specs.Premises.{IsSortedProblem, HasClosedFlow}
use Rattle.hs_verdict.specs.Terms.{term_at}
use Rattle.hs_verdict.proofs.Counts.{problem_sorts, sorted_by}
use Rattle.hs_verdict.proofs.TermLemmas.{are_terms}
use Rattle.hs_verdict.proofs.Complete.{complete}

module _ (p : ProblemData) (given : IsSortedProblem p) where
  abbrev rules : List Rule
  rules = p.sorted.scheme.rules

  abbrev ts : List TransitionData
  ts = p.sorted.automaton.transitions

  abbrev FailsAt : ℕ → Path → Type 0
  FailsAt n path = Fails rules ts n 0 start path

  refused_fails : (n : ℕ) → run ts 0 (cut rules n start) ≡ false → (m : ℕ) × (path : Path) × FailsAt m path
  refused_fails zero e = absurd (cc)
  refused_fails (suc n) e =
      let terminals : ℕ = length p.sorted.scheme.ranks in
      let ranks : List (Option ℕ) = known p.sorted.scheme.ranks in
      let sorted = start_sorted rules terminals ranks ts (problem_sorts p) (sorted_by p given) in
      let f = refused_within rules ts terminals ranks (problem_sorts p) (sorted_by p given) n 0 start sorted (rw add-one e) in
      (f.1, f.0, f.3)

  pub accepted : ((n : ℕ) (path : Path) → FailsAt n path → ⊥) → Accepts rules ts
  accepted never n = not_refused (run ts 0 (cut rules n start)) (λ e. let f = refused_fails n e in never f.0 f.1 f.2)

  pub never_fails : Accepts rules ts → (n : ℕ) (path : Path) → FailsAt n path → ⊥
  never_fails accepts n path f = not_both (run ts 0 (cut rules (n + 1) start)) (accepts (n + 1)) (within_refused rules ts n 0 start (path, n, omega arith, f))

  module _ (closed : HasClosedFlow p) (T : List EntryData) (table : IsClosedTable p T) where
    pub complete_table : (n : ℕ) (path : Path) → FailsAt n path → HasStart p T
    complete_table = complete p given closed (term_at rules) (are_terms rules) T table

    pub accepts_without_start : (HasStart p T → ⊥) → Accepts rules ts
    accepts_without_start lacks = accepted (λ n path f. lacks (complete_table n path f))
