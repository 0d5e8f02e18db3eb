use Rattle.std.proofs.Common.{ap, arith}
use Rattle.std.proofs.lemmas.List.Sums.{sum_by_more_le, sum_by-take-le}
use Rattle.hs_passes.specs.Weight.{params_of}
use Rattle.hs_passes.proofs.Weights.{light}
use Rattle.hs_passes.proofs.weighing.weight_of.Goals as goal

pub overflow_add-weight : goal.overflow_add-weight
overflow_add-weight c =
    let few = light _ _ c.sorted-inside.invariant _ c.as_slice-rules.ensures.value in
    let more = sum_by_more_le params_of c.as_slice-rules.result.now c.loop-rule.rule-index c.rule-item.result c.loop-rule-test.true in
    omega (arith, few, more, c.loop-rule.invariant, c.from-weight.ensures, ap params_of c.rule-item.is)

pub returns-clause-small : goal.returns-clause-small
returns-clause-small c =
    let few = light _ _ c.sorted-inside.invariant _ c.as_slice-rules.ensures.value in
    omega (arith, few, sum_by-take-le params_of c.as_slice-rules.result.now c.loop-rule.rule-index, c.loop-rule.invariant)
