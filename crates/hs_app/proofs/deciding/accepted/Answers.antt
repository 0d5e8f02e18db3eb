use Rattle.std.proofs.Common.{sym, ◌∙◌, subst, ℕ, ◌≤◌, List, length}
use Rattle.std.proofs.lemmas.Result.{IfOk-weaker}
use Rattle.hs_table.specs.Entries.{EntryData}
use Rattle.hs_text.specs.declared.verdict.Verdict.TheVariants.{Accepted}
use Rattle.hs_core.specs.Core.{log_of}
use Rattle.hs_core.proofs.Tables.{core_within}
use Rattle.hs_app.specs.Verdict.{IsShown}
use Rattle.hs_app.proofs.ToldTables.{told_supported}
use Rattle.hs_app.proofs.deciding.accepted.Goals as goal

pub report_told-requires-clause-told : goal.report_told-requires-clause-told
report_told-requires-clause-told c =
    IfOk-weaker c.told_entries-told.result _ _ (λ entries is. told_supported (λ v. v.items) c.args.problem.now entries c.args.settings.table (log_of c.args.core) c.requires.least.supported is) c.told_entries-told.ensures

pub minimal_of-sought-requires-clause-few : goal.minimal_of-sought-requires-clause-few
minimal_of-sought-requires-clause-few c = subst (λ (n : ℕ). length (log_of c.args.core) ≤ n) c.requires.budget (core_within c.args.core c.know_core.ensures)

pub returns : goal.returns
returns c =
    let log = log_of c.args.core in
    record {
      accepts = c.requires.accepts;
      table = log;
      least = c.requires.least;
      lacks = c.requires.lacks;
      within = subst (λ (n : ℕ). length log ≤ n) c.requires.budget (core_within c.args.core c.know_core.ensures);
      checked = c.in_ok-checked.checked;
      count = c.in_ok-checked.ensures;
      tells =
          subst (λ (n : ℕ). IsShown c.args.settings c.args.problem.now (Accepted n c.in_ok-checked.checked) log c.args.removed c.in_ok-report.report.items)
          c.len-entries.ensures (c.in_ok-report.ensures log c.told_entries-told.ensures);
    }
