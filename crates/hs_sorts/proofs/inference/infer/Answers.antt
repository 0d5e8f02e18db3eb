use Rattle.std.proofs.Common.{IfErr, rules}
use Rattle.hs_sorts.specs.Inference.{IsSortFault}
use Rattle.hs_sorts.proofs.Excluding.{only_memory_in}
use Rattle.hs_sorts.proofs.inference.infer.Goals as goal

pub returns-in_err-least-clause-accepted : goal.returns-in_err-least-clause-accepted
returns-in_err-least-clause-accepted c = λ good.
    let fault : IfErr c.from_residual.result (IsSortFault c.args.unsorted.rules c.args.unsorted.ranks) = search rules in
    only_memory_in c.args.unsorted.rules c.args.unsorted.ranks c.from_residual.result good fault
