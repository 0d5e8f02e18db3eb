use Rattle.std.proofs.Common.{sym, subst, Bool}
use Rattle.std.proofs.lemmas.Result.{IfOk-weaker}
use Rattle.hs_scheme.specs.Problem.{ProblemData}
use Rattle.hs_table.specs.Tables.{IsSupportedTable}
use Rattle.hs_core.specs.Core.{log_of}
use Rattle.hs_core.proofs.Tables.{core_table}
use Rattle.hs_app.specs.Problems.{IsReportedTable}
use Rattle.hs_app.proofs.ToldTables.{told_supported}
use Rattle.hs_app.proofs.deciding.report_of.Goals as goal

pub minimal_of-sought-requires-clause-least : goal.minimal_of-sought-requires-clause-least
minimal_of-sought-requires-clause-least c = λ first. (subst (λ (b : Bool). IsReportedTable b c.args.problem.now (log_of c.args.core.now)) first c.requires.reported).0

pub report_told-requires-clause-told : goal.report_told-requires-clause-told
report_told-requires-clause-told c =
    let log = log_of c.args.core.now in
    IfOk-weaker c.told_entries-told.result _ _ (λ entries is. told_supported (λ v. v.items) c.args.problem.now entries c.args.settings.table log
    (subst (λ (p : ProblemData). IsSupportedTable p log) (sym c.requires.problem) (core_table c.args.core.now c.know_core.ensures)) is) c.told_entries-told.ensures

pub returns : goal.returns
returns c = IfOk-weaker c.report_told.result _ _ (λ text is. is (log_of c.args.core.now) c.told_entries-told.ensures) c.report_told.ensures
