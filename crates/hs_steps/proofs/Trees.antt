-- Lengthened rules make the same tree, with the same numbers of steps.
use Rattle.std.proofs.Common.{◌≡◌, sym, ◌∙◌, ap, subst, ℕ, ◌↔◌, false, List, length, Option, unwrap_or}
use Rattle.hs_scheme.specs.declared.term.Head.{Head}
use Rattle.hs_scheme.specs.declared.term.Rule.{Rule}
use Rattle.hs_scheme.specs.acceptance.Transition.{TransitionData}
use Rattle.hs_scheme.specs.Tree.{Tree}
use Rattle.hs_scheme.specs.acceptance.Cut.{cut}
use Rattle.hs_scheme.specs.acceptance.Run.{run, start, Accepts}
use Rattle.hs_scheme.specs.Scheme.{AreRules}
use Rattle.hs_scheme.specs.acceptance.Automaton.{AutomatonData}
use Rattle.hs_scheme.specs.sorting.Unsorted.{UnsortedData, IsUnsorted}
use Rattle.hs_scheme.specs.sorting.Sorting.{SortTree, o, ranked, Sorts, IsSorting}
use Rattle.hs_scheme.specs.sorting.Sorted.{SortedData, IsSorted, known, sorts_of}
use Rattle.hs_steps.specs.Lengthened.{IsLengthened}
use Rattle.hs_scheme.specs.acceptance.Steps.{Path, Along, Reaches, HasNoTransition, Fails}
use Rattle.hs_scheme.specs.SameTree.{HaveSameTree}
use Rattle.hs_scheme.specs.sorting.Lengthening.{lengthening, AreSortsOf}
use Rattle.hs_scheme.specs.TreeTerms.{IsTreeTerm, AreSortedBy}
use Rattle.hs_scheme.proofs.Sortings.{known_at, length-lengthening}
use Rattle.hs_steps.proofs.Failing.{not_refused, not_both}
use Rattle.hs_steps.proofs.Sorted.{start_sorted, step_sorted}
use Rattle.hs_steps.proofs.Lengthened.{unfolded_alike}
use Rattle.hs_steps.proofs.Alike.{along_over, along_back, refused_over, refused_back}

module _ (rules : List Rule) (terminals : ℕ) (ranks : List (Option ℕ)) (ts : List TransitionData) (s : Sorts) (sorted : AreSortedBy rules terminals ranks ts s)
    (ks : List SortTree) (are : AreSortsOf ks rules s) where
  alike_along : (P : ℕ → Tree Head → Type 0) (n q : ℕ) (t : Tree Head) (path : Path) → IsTreeTerm s t → Along rules ts P n q t path ↔ Along (lengthening rules ks) ts P n q t path
  alike_along P n q t path is =
      let alike = unfolded_alike rules terminals ranks ts s sorted ks are in let kept = step_sorted rules terminals ranks ts s sorted in
      (along_over rules (lengthening rules ks) ts (IsTreeTerm s) alike kept P n q t path is, along_back rules (lengthening rules ks) ts (IsTreeTerm s) alike kept P n q t path is)

  pub same_steps : (n q p : ℕ) (t u : Tree Head) (path : Path) → IsTreeTerm s t → Reaches rules ts n q t path p u ↔ Reaches (lengthening rules ks) ts n q t path p u
  same_steps n q p t u path is = alike_along (λ r v. (r ≡ p) × (v ≡ u)) n q t path is

  pub same_failures : (n q : ℕ) (t : Tree Head) (path : Path) → IsTreeTerm s t → Fails rules ts n q t path ↔ Fails (lengthening rules ks) ts n q t path
  same_failures n q t path is = alike_along (HasNoTransition ts) n q t path is

  pub same_refusals : (n : ℕ) → (run ts 0 (cut rules n start) ≡ false) ↔ (run ts 0 (cut (lengthening rules ks) n start) ≡ false)
  same_refusals n =
      let alike = unfolded_alike rules terminals ranks ts s sorted ks are in let kept = step_sorted rules terminals ranks ts s sorted in
      let is = start_sorted rules terminals ranks ts s sorted in
      (refused_over rules (lengthening rules ks) ts (IsTreeTerm s) alike kept n 0 start is, refused_back rules (lengthening rules ks) ts (IsTreeTerm s) alike kept n 0 start is)

  pub same_acceptance : Accepts rules ts ↔ Accepts (lengthening rules ks) ts
  same_acceptance =
      let others = lengthening rules ks in (
        λ accepts n. not_refused (run ts 0 (cut others n start)) (λ e. not_both (run ts 0 (cut rules n start)) (accepts n) ((same_refusals n).1 e)),
        λ accepts n. not_refused (run ts 0 (cut rules n start)) (λ e. not_both (run ts 0 (cut others n start)) (accepts n) ((same_refusals n).0 e)),
      )

pub same_tree : (rules : List Rule) (terminals : ℕ) (ranks : List ℕ) (s : Sorts) (ks : List SortTree) → AreRules rules terminals → IsSorting rules (known ranks) (length rules) s → AreSortsOf ks rules s
    → HaveSameTree ranks rules (lengthening rules ks)
same_tree rules terminals ranks s ks are_rules sorting are ts agree q path =
    let sorted : AreSortedBy rules terminals (known ranks) ts s = record { are_rules = are_rules; sorting = sorting; agree = agree } in
    let is = start_sorted rules terminals (known ranks) ts s sorted in (
      λ f. (f.0, (same_failures rules terminals (known ranks) ts s sorted ks are f.0 q start path is).0 f.1),
      λ f. (f.0, (same_failures rules terminals (known ranks) ts s sorted ks are f.0 q start path is).1 f.1),
    )

module _ (u : UnsortedData) (s : SortedData) (unsorted : IsUnsorted u) (sorted : IsSorted s) (made : IsLengthened u s) where
  abbrev sorts : Sorts
  sorts = sorts_of s.sorts s.scheme.ranks

  abbrev ts : List TransitionData
  ts = u.automaton.transitions

  are_sorted : AreSortedBy u.rules (length u.ranks) u.ranks ts sorts
  are_sorted = record { are_rules = unsorted.rules; sorting = made.sorting; agree = unsorted.ranks }

  are_sorts : AreSortsOf s.sorts u.rules sorts
  are_sorts = record {
    each_rule = sorted.each_rule ∙ (ap (λ (rules : List Rule). length rules) made.rules ∙ length-lengthening u.rules s.sorts);
    nonterminals = λ f k at. sym (ap (λ x. unwrap_or x o) at);
  }

  transitions_are : ts ≡ s.automaton.transitions
  transitions_are = ap (λ (a : AutomatonData). a.transitions) (sym made.automaton)

  pub tree_of_file : HaveSameTree s.scheme.ranks u.rules s.scheme.rules
  tree_of_file =
      subst (HaveSameTree s.scheme.ranks u.rules) (sym made.rules)
      (same_tree u.rules (length u.ranks) s.scheme.ranks sorts s.sorts unsorted.rules (record {
        nonterminals = made.sorting.nonterminals;
        bodies = made.sorting.bodies;
        start = made.sorting.start;
        terminals = λ a n at. ap (λ x. ranked (unwrap_or x 0)) (known_at s.scheme.ranks a n at);
      }) are_sorts)

  pub failures_of_file : (n : ℕ) (path : Path) → Fails u.rules ts n 0 start path ↔ Fails s.scheme.rules s.automaton.transitions n 0 start path
  failures_of_file n path =
      subst (λ (l : List TransitionData). Fails u.rules ts n 0 start path ↔ Fails s.scheme.rules l n 0 start path) transitions_are
      (subst (λ (rules : List Rule). Fails u.rules ts n 0 start path ↔ Fails rules ts n 0 start path) (sym made.rules)
      (same_failures u.rules (length u.ranks) u.ranks ts sorts are_sorted s.sorts are_sorts n 0 start path made.sorting.start))

  pub reaches_of_file : (n : ℕ) (path : Path) (q : ℕ) (t : Tree Head)
      → Reaches u.rules ts n 0 start path q t ↔ Reaches s.scheme.rules s.automaton.transitions n 0 start path q t
  reaches_of_file n path q t =
      subst (λ (l : List TransitionData). Reaches u.rules ts n 0 start path q t ↔ Reaches s.scheme.rules l n 0 start path q t) transitions_are
      (subst (λ (rules : List Rule). Reaches u.rules ts n 0 start path q t ↔ Reaches rules ts n 0 start path q t) (sym made.rules)
      (same_steps u.rules (length u.ranks) u.ranks ts sorts are_sorted s.sorts are_sorts n 0 q start t path made.sorting.start))

  pub refusals_of_file : (n : ℕ) → (run ts 0 (cut u.rules n start) ≡ false) ↔ (run s.automaton.transitions 0 (cut s.scheme.rules n start) ≡ false)
  refusals_of_file n =
      subst (λ (l : List TransitionData). (run ts 0 (cut u.rules n start) ≡ false) ↔ (run l 0 (cut s.scheme.rules n start) ≡ false)) transitions_are
      (subst (λ (rules : List Rule). (run ts 0 (cut u.rules n start) ≡ false) ↔ (run ts 0 (cut rules n start) ≡ false)) (sym made.rules)
      (same_refusals u.rules (length u.ranks) u.ranks ts sorts are_sorted s.sorts are_sorts n))

  pub acceptance_of_file : Accepts u.rules ts ↔ Accepts s.scheme.rules s.automaton.transitions
  acceptance_of_file =
      subst (λ (l : List TransitionData). Accepts u.rules ts ↔ Accepts s.scheme.rules l) transitions_are
      (subst (λ (rules : List Rule). Accepts u.rules ts ↔ Accepts rules ts) (sym made.rules)
      (same_acceptance u.rules (length u.ranks) u.ranks ts sorts are_sorted s.sorts are_sorts))
