use Rattle.std.proofs.Common.{subst}
use Rattle.std.proofs.lemmas.Option.{slice_get_within}
use Rattle.hs_checker.specs.declared.fault.CheckFault.{CheckFault}
use Rattle.hs_checker.specs.Checked.{IsFault}
use Rattle.hs_check.specs.Evidence.{TableShows}
use Rattle.hs_check.proofs.Running.{told_missing}
use Rattle.hs_check.proofs.verified.shown_full.Goals as goal

pub missing-requires : goal.missing-requires
missing-requires c =
    let p = c.args.problem.now in
    let fault = subst (λ (f : CheckFault). IsFault p c.args.table.now f) c.in-Err-Missing.field-0-is c.in-Err-Missing.ensures.fault in
    slice_get_within p.points.points c.in-Err-Missing.entry.point fault.1.0.1.of fault.1.0.1.at

pub returns-in-Err-Missing-clause-shows : goal.returns-in-Err-Missing-clause-shows
returns-in-Err-Missing-clause-shows c =
    let p = c.args.problem.now in
    let e = c.in-Err-Missing.entry in
    let fault = subst (λ (f : CheckFault). IsFault p c.args.table.now f) c.in-Err-Missing.field-0-is c.in-Err-Missing.ensures.fault in
    told_missing p e (TableShows p c.args.table.now c.args.checked) (λ entry line. (e, (fault.1, line))) c.missing.result c.missing.ensures
