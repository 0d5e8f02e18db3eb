use Rattle.std.proofs.Common.{[], refl}
use Rattle.hs_certificate_checker.proofs.FlowLemmas.{no_marks, gap_fault, no_gap}
use Rattle.hs_certificate_checker.proofs.flow.check_flow.Goals as goal

pub first_gap-gap-requires-clause-inert : goal.first_gap-gap-requires-clause-inert
first_gap-gap-requires-clause-inert c = no_marks c.args.problem.now [] refl

pub returns-in-Some-clause-fault : goal.returns-in-Some-clause-fault
returns-in-Some-clause-fault c = gap_fault c.args.problem.now c.first_gap-gap.result c.in-Some.pair c.open.result c.in-Some.is c.first_gap-gap.ensures c.open.ensures

pub returns-in-None-clause-closed : goal.returns-in-None-clause-closed
returns-in-None-clause-closed c = no_gap c.args.problem.now c.first_gap-gap.result c.in-None.is c.first_gap-gap.ensures
