use Rattle.hs_sorts.proofs.Excluding.{only_memory, one_fault_is, inferred_inferable}
use Rattle.hs_sorts.proofs.laws.one_fault.Goals as goal

pub returns-clause-one : goal.returns-clause-one
returns-clause-one c = one_fault_is

pub returns-clause-inferred : goal.returns-clause-inferred
returns-clause-inferred c = inferred_inferable

pub returns-clause-none : goal.returns-clause-none
returns-clause-none c = only_memory
