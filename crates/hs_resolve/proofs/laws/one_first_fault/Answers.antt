use Rattle.hs_resolve.proofs.FirstFault.{not_both, one_fault_is}
use Rattle.hs_resolve.proofs.laws.one_first_fault.Goals as goal

pub returns-clause-one : goal.returns-clause-one
returns-clause-one c = one_fault_is

pub returns-clause-none : goal.returns-clause-none
returns-clause-none c = not_both
