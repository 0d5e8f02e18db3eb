use Rattle.std.proofs.Common.{◌≢◌, sym, ◌∙◌, subst, List, AllPairs, Option, Some, None}
use Rattle.std.specs.Prelude.{if◌then◌else◌}
use Rattle.std.specs.Option.{option_map}
use Rattle.std.proofs.lemmas.Result.{IfOk-weaker}
use Rattle.hs_scheme.specs.Problem.{ProblemData}
use Rattle.hs_table.specs.Entries.{EntryData}
use Rattle.hs_minimal.proofs.CompactingLemmas.{ascending_distinct}
use Rattle.hs_text.specs.declared.minimal.Minimal.{Minimal}
use Rattle.hs_text.specs.declared.minimal.Minimal.TheVariants.{Table, More}
use Rattle.hs_text.specs.Report.{HoldsOfList, IsReport}
use Rattle.hs_words.specs.declared.options.Settings.{Settings}
use Rattle.hs_app.specs.Verdict.{IsSought}
use Rattle.hs_app.proofs.ToldTables.{table_shape, given_supported}
use Rattle.hs_app.proofs.deciding.report_by.Goals as goal

-- no two entries of a list that is compact are equal
list_distinct : (settings : Settings) (p : ProblemData) (minimal : Option Minimal) → IsSought settings p minimal → HoldsOfList (AllPairs (λ a b. a ≢ b)) minimal
list_distinct settings p None h = tt
list_distinct settings p (Some (Table C)) h = ascending_distinct C.items h.1.ascending
list_distinct settings p (Some (More budget)) h = tt

pub report-requires-clause-shape : goal.report-requires-clause-shape
report-requires-clause-shape c = λ table e.
    table_shape c.args.problem.now table c.know_sorted_problem.ensures.automaton (given_supported (λ v. v.items) c.args.problem.now c.args.entries.now table c.requires.entries (sym c.listed-table.ensures ∙ e))

pub report-requires-clause-distinct : goal.report-requires-clause-distinct
report-requires-clause-distinct c = λ table e. (given_supported (λ v. v.items) c.args.problem.now c.args.entries.now table c.requires.entries (sym c.listed-table.ensures ∙ e)).distinct

pub report-requires-clause-list_distinct : goal.report-requires-clause-list_distinct
report-requires-clause-list_distinct c =
    subst (λ (m : Option Minimal). HoldsOfList (AllPairs (λ a b. a ≢ b)) m) (sym c.as_ref.ensures.value)
    (list_distinct c.args.settings c.args.problem.now c.args.sought.now c.requires.sought)

pub returns : goal.returns
returns c =
    let p = c.args.problem.now in
    let v = c.args.verdict.now in
    let removed = c.args.removed in
    let told = c.listed-table.result in
    let seen = c.as_ref.result in
    IfOk-weaker c.report.result _ _ (λ text is log whole.
    let with_log = subst (λ (t : Option (List EntryData)). IsReport p v t removed (option_map (λ m. m.now) seen) text.items) (c.listed-table.ensures ∙ whole) is in (
      c.args.sought.now,
      (
        c.requires.sought,
        subst (λ (m : Option Minimal). IsReport p v (if c.args.settings.table then Some log else None) removed m text.items) c.as_ref.ensures.value with_log,
      ),
    )) c.report.ensures
