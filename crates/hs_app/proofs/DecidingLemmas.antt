-- What the answers of saturation say of a problem.
use Rattle.std.proofs.Common.{◌≡◌, refl, sym, ◌∙◌, ap, subst, ℕ, ◌≤◌, Bool, true, false, List, length, Option, Some, None, IfNone, arith, inl, inr}
use Rattle.std.proofs.lemmas.Bool.{cases_lt}
use Rattle.std.specs.Prelude.{if◌then◌else◌}
use Rattle.hs_scheme.specs.declared.term.Rule.{Rule}
use Rattle.std.specs.Option.{IfSome}
use Rattle.hs_scheme.specs.Problem.{ProblemData}
use Rattle.hs_scheme.specs.acceptance.Run.{Accepts}
use Rattle.hs_scheme.proofs.Lists.{Contains-at}
use Rattle.hs_table.specs.Entries.{EntryData}
use Rattle.hs_table.specs.Tables.{IsSupportedTable, IsLeastTable, HasStart, Exceeds}
use Rattle.hs_table_laws.proofs.Least.{least_same}
use Rattle.hs_verdict.specs.Premises.{IsSortedProblem}
use Rattle.hs_verdict.proofs.Ending.{supported_rejects}
use Rattle.hs_history.specs.Story.{Base}
use Rattle.hs_core.specs.Core.{CoreData, log_of, IsCore, StartsAt}
use Rattle.hs_core.specs.Answers.{IsLeastAnswer, IsOverAnswer, IsFirstAnswer}
use Rattle.hs_core.proofs.Tables.{core_table, core_within}
use Rattle.hs_workers.specs.Answers.{IsShared}
use Rattle.hs_words.specs.declared.options.Settings.{Settings}
use Rattle.hs_app.specs.Problems.{IsReportedTable}
use Rattle.hs_app.specs.Verdict.{IsOver}
use Rattle.hs_app.proofs.ReportedTables.{reported_first}

abbrev pub base_of : ProblemData → Settings → Base
base_of p settings = record { problem = p; budget = settings.entries; first = settings.first }

-- both ways of a choice between the same rules
pub either_way : (b : Bool) (P : List Rule → Type 0) (rules : List Rule) → P rules → P (if b then rules else rules)
either_way true P rules h = h
either_way false P rules h = h

not_true : (b : Bool) → (b ≡ true → ⊥) → b ≡ false
not_true true h = absurd (h refl)
not_true false h = refl

-- a least table has no more entries than the budget
pub least_within : (p : ProblemData) (budget : ℕ) (T : List EntryData) → (Exceeds p budget → ⊥) → IsLeastTable p T → length T ≤ budget
least_within p budget T h least = elim (cases_lt budget (length T)) [
  | inl more ↦ absurd (h (T, (least.supported, more)))
  | inr few ↦ few
]

-- the start entry, where its place is known, or that there is none
pub begins : (p q : ProblemData) (log : List EntryData) (place : Option ℕ) (n : ℕ) → p ≡ q → place ≡ Some n → IfSome place (StartsAt q log) → HasStart p log
begins p q log place n same is h =
    let there = subst (λ (o : Option ℕ). IfSome o (StartsAt q log)) is h in
    subst (λ (x : ProblemData). HasStart x log) (sym same) (there.entry, (there.is_start, Contains-at log n there.entry there.at))

pub lacks_start : (p q : ProblemData) (log : List EntryData) (place : Option ℕ) → p ≡ q → place ≡ None → IfNone place (HasStart q log → ⊥) → HasStart p log → ⊥
lacks_start p q log place same is h start =
    let none = subst (λ (o : Option ℕ). IfNone o (HasStart q log → ⊥)) is h in none (subst (λ (x : ProblemData). HasStart x log) same start)

module _ (p : ProblemData) (settings : Settings) (core : CoreData) (is : IsCore core) (sorted : IsSortedProblem p) (shared : IsShared (base_of p settings) settings.workers core) where
  abbrev log : List EntryData
  log = log_of core

  pub problem_is : p ≡ core.base.problem
  problem_is = sym (ap (λ (b : Base). b.problem) shared.same)

  pub budget_is : core.base.budget ≡ settings.entries
  budget_is = ap (λ (b : Base). b.budget) shared.same

  first_is : core.base.first ≡ settings.first
  first_is = ap (λ (b : Base). b.first) shared.same

  pub few_entries : length log ≤ settings.entries
  few_entries = subst (λ (n : ℕ). length log ≤ n) budget_is (core_within core is)

  supported : IsSupportedTable p log
  supported = subst (λ (q : ProblemData). IsSupportedTable q log) (sym problem_is) (core_table core is)

  pub supported_start_rejects : HasStart p log → Accepts p.sorted.scheme.rules p.sorted.automaton.transitions → ⊥
  supported_start_rejects start = supported_rejects p sorted log supported start

  pub first_start : IsFirstAnswer core → HasStart p log
  first_start h = subst (λ (q : ProblemData). HasStart q log) (sym problem_is) h.start

  pub first_is_reported : IsFirstAnswer core → IsReportedTable settings.first p log
  first_is_reported h = reported_first settings.first p log (sym first_is ∙ h.first) supported (first_start h)

  pub first_asked : IsFirstAnswer core → settings.first ≡ false → ⊥
  first_asked h all = let e : true ≡ false = sym h.first ∙ (first_is ∙ all) in (cc)

  pub least_table : IsLeastAnswer core → IsLeastTable p log
  least_table h = subst (λ (q : ProblemData). IsLeastTable q log) (sym problem_is) h.least

  -- with the start entry the whole table was asked for
  pub all_asked : IsLeastAnswer core → HasStart p log → settings.first ≡ false
  all_asked h start = not_true settings.first (λ first. h.goes_on (first_is ∙ first) (subst (λ (q : ProblemData). HasStart q log) problem_is start))

  pub each_starts : IsLeastAnswer core → HasStart p log → (T : List EntryData) → IsLeastTable p T → HasStart p T
  each_starts h start T least = (start.0, (start.1.0, (least_same p log T (least_table h) least start.0).0 start.1.1))

  pub fits : IsLeastAnswer core → Exceeds p settings.entries → ⊥
  fits h exceeds = h.fits (subst (λ (n : ℕ). Exceeds core.base.problem n) (sym budget_is) (subst (λ (q : ProblemData). Exceeds q settings.entries) problem_is exceeds))

  pub is_over : IsOverAnswer core → IsOver settings p
  is_over h = record {
    exceeds = subst (λ (q : ProblemData). Exceeds q settings.entries) (sym problem_is) (subst (λ (n : ℕ). Exceeds core.base.problem n) budget_is h.exceeds);
    first = λ first. (log, (supported, h.full ∙ budget_is, λ begins. h.goes_on (first_is ∙ first) (subst (λ (q : ProblemData). HasStart q log) problem_is begins)));
  }
