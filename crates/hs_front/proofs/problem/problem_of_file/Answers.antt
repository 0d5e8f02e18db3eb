use Rattle.hs_front.proofs.Yielding.{fault_yields}
use Rattle.hs_front.proofs.problem.problem_of_file.Goals as goal

pub returns-in-Err : goal.returns-in-Err
returns-in-Err c = fault_yields c.args.bytes.now c.in-Err.refusal c.requires c.in-Err.ensures.refused
