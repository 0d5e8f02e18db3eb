use Rattle.std.proofs.Common.{◌∙◌, ap, map, arith}
use Rattle.hs_weak.specs.Void.{void_cmp}
use Rattle.hs_text.proofs.VoidOrder.{void_cmp_total, void_same}
use Rattle.hs_types.specs.Interned.{InternerData}
use Rattle.hs_numbered.specs.Certificates.{void_of}
use Rattle.hs_app.proofs.EvidenceLemmas.{ascending_rows}
use Rattle.hs_app.proofs.evidence.are_pairs_ascending.Goals as goal

pub loop-place-init : goal.loop-place-init
loop-place-init c = (omega arith, λ k d lt. absurd (omega (arith, lt)))

pub returns : goal.returns
returns c = λ _.
    let numbers = c.interner-numbers.result.now in
    let rows = c.void_rows-rows.result.now in
    let same = ap (λ (I : InternerData). map (void_of I) rows) c.interner-numbers.ensures ∙ c.void_rows-rows.ensures.pairs in
    ascending_rows void_cmp void_cmp_total void_same (void_of numbers) (record { rule = 0; env = 0 }) rows c.args.certificate.now.void same
    (λ k d lt. c.loop-place.invariant.1 k d (omega (arith, lt, c.loop-place-test.false)))
