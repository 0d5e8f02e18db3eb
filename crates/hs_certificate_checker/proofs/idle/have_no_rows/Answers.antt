use Rattle.std.proofs.Common.{◌≡◌, sym, ℕ, get_or, length, Contains}
use Rattle.std.proofs.lemmas.Bool.{eqb-true}
use Rattle.std.proofs.lemmas.List.{get_or_default}
use Rattle.hs_scheme.proofs.Lists.{none_in}
use Rattle.hs_types.specs.Interned.{RowData}
use Rattle.hs_strength.proofs.Rows.{each_more, each_all}
use Rattle.hs_certificate_checker.proofs.IdleLemmas.{no_rows_more}
use Rattle.hs_certificate_checker.proofs.idle.have_no_rows.Goals as goal

pub loop-point-init : goal.loop-point-init
loop-point-init c = λ u m. absurd (none_in u m)

pub loop-point-preserved : goal.loop-point-preserved
loop-point-preserved c =
    let us = c.args.points.now in
    let k = c.loop-point.point-index in
    let u : ℕ = get_or us k 0 in
    each_more (λ (w : ℕ). (row : RowData) → Contains c.args.table.now row → row.point ≡ w → ⊥) us k u c.loop-point-test.true (get_or_default us k 0 u c.loop-point-test.true) c.loop-point.invariant
    (no_rows_more c.args.table.now u c.rows_at.result.now (λ row m at. (c.rows_at.ensures row).1 (m, at)) (eqb-true (length c.rows_at.result.now) 0 (sym c.if-not-is_empty.ensures)))

pub returns : goal.returns
returns c = λ _. each_all (λ (w : ℕ). (row : RowData) → Contains c.args.table.now row → row.point ≡ w → ⊥) c.args.points.now c.loop-point.point-index c.loop-point-test.false c.loop-point.invariant
