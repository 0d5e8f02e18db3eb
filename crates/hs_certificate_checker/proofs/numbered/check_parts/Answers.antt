use Rattle.std.proofs.Common.{◌≡◌, sym, ◌∙◌, ap, subst, ℕ, List, map, true, false}
use Rattle.std.proofs.lemmas.Result.{err_from_is_err_and}
use Rattle.hs_scheme.proofs.Lists.{match_none}
use Rattle.hs_table.specs.Entries.{EntryData}
use Rattle.hs_table.specs.Tables.{HasStart}
use Rattle.hs_weak.specs.Void.{VoidData, IsVoidShape}
use Rattle.hs_types.specs.Interned.{InternerData, entry_of}
use Rattle.hs_numbered.specs.Certificates.{void_of}
use Rattle.hs_certificate_checker.specs.Faults.{IsFirstOther, AreInVoidShape}
use Rattle.hs_certificate_checker.proofs.numbered.check_parts.Goals as goal

pub returns-in_err-check_flow-clause-fault : goal.returns-in_err-check_flow-clause-fault
returns-in_err-check_flow-clause-fault c =
    let fault = λ (R : List (ℕ × ℕ)). c.in_err-check_flow.ensures.fault c.args.certificate.now.table c.args.certificate.now.void R in
    let e = err_from_is_err_and c.from_residual.result c.from_residual.ensures.1 in
    rw (e.1, e.2) fault

pub returns-in-None-clause-fine : goal.returns-in-None-clause-fine
returns-in-None-clause-fine c =
    let p = c.args.problem.now in
    let d = c.args.certificate.now in
    let table = ap (λ (I : InternerData). map (entry_of I) c.rows.result.now) c.interner-interner.ensures ∙ c.rows.ensures.entries in
    let void = ap (λ (I : InternerData). map (void_of I) c.void_rows.result.now) c.interner-interner.ensures ∙ c.void_rows.ensures.pairs in (
      c.in_ok-check_flow.ensures.closed,
      λ start. let f : true ≡ false = sym (c.has_start_row.ensures.1 (subst (λ (T : List EntryData). HasStart p T) (sym table) start)) ∙ c.if-has_start_row.false in absurd (cc),
      subst (λ (V : List VoidData). AreInVoidShape p V) void (match_none c.first_row_out_of_shape.result (AreInVoidShape p (map (void_of c.interner-interner.result.now) c.void_rows.result.now)) (IsFirstOther (IsVoidShape p) (map (void_of c.interner-interner.result.now) c.void_rows.result.now)) c.in-None.is c.first_row_out_of_shape.ensures),
    )
