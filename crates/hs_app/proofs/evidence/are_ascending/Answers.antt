use Rattle.std.proofs.Common.{◌∙◌, ap, map, arith}
use Rattle.hs_table.specs.Entries.{entry_cmp}
use Rattle.hs_table_laws.proofs.Orders.{entry_cmp_total, entry_same}
use Rattle.hs_types.specs.Interned.{InternerData, entry_of}
use Rattle.hs_app.proofs.EvidenceLemmas.{ascending_rows}
use Rattle.hs_app.proofs.evidence.are_ascending.Goals as goal

pub loop-place-init : goal.loop-place-init
loop-place-init c = (omega arith, λ k d lt. absurd (omega (arith, lt)))

pub returns : goal.returns
returns c = λ _.
    let numbers = c.interner-numbers.result.now in
    let rows = c.rows-rows.result.now in
    let same = ap (λ (I : InternerData). map (entry_of I) rows) c.interner-numbers.ensures ∙ c.rows-rows.ensures.entries in
    ascending_rows entry_cmp entry_cmp_total entry_same (entry_of numbers) (record { point = 0; env = 0; ty = 0 }) rows c.args.certificate.now.table same
    (λ k d lt. c.loop-place.invariant.1 k d (omega (arith, lt, c.loop-place-test.false)))
