use Rattle.std.proofs.Common.{◌≡◌, refl, ap, length, slice_get, Some, Bor}
use Rattle.std.specs.List.{flat_map}
use Rattle.std.proofs.lemmas.List.{take_all}
use Rattle.std.proofs.lemmas.Option.{slice_get_read}
use Rattle.hs_weak.specs.Void.{VoidData}
use Rattle.hs_text.specs.Report.{void_line}
use Rattle.hs_text.proofs.Puts.{puts_none, puts_then, puts_as, flat_map-more}
use Rattle.hs_text.proofs.evidence.push_pairs.Goals as goal

pub loop-pair-init : goal.loop-pair-init
loop-pair-init c = puts_none _

pub loop-pair-preserved : goal.loop-pair-preserved
loop-pair-preserved c =
    let pairs = c.args.pairs.now in
    let n = c.loop-pair.pair-index in
    let v = c.pair-item.result in
    let at : slice_get pairs n ≡ Some v = slice_get_read pairs (length pairs) n v refl c.loop-pair-test.true c.pair-item.is in
    puts_as (flat_map-more (λ (r : Bor VoidData). void_line c.args.problem.now r.now) pairs n v at) (puts_then c.loop-pair.invariant c.push_void_line.ensures)

pub returns : goal.returns
returns c =
    puts_as (ap (flat_map (λ (r : Bor VoidData). void_line c.args.problem.now r.now)) (take_all _ c.args.pairs.now c.loop-pair-test.false)) c.loop-pair.invariant
