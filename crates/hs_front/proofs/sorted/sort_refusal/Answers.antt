use Rattle.std.proofs.Common.{subst}
use Rattle.hs_sorts.specs.Inference.{IsSortFault}
use Rattle.hs_front.proofs.sorted.sort_refusal.Goals as goal

pub terminal_name-requires-clause-in_range : goal.terminal_name-requires-clause-in_range
terminal_name-requires-clause-in_range c = λ u of_bytes.
    let fault = subst (IsSortFault u.rules u.ranks) c.in-TerminalNotFirstOrder.is (c.requires.fault u of_bytes) in fault.in_range

pub returns-in-IllSorted : goal.returns-in-IllSorted
returns-in-IllSorted c = λ u of_bytes. subst (IsSortFault u.rules u.ranks) c.in-IllSorted.is (c.requires.fault u of_bytes)

pub returns-in-Ok : goal.returns-in-Ok
returns-in-Ok c = λ u of_bytes. record {
  number = c.in-TerminalNotFirstOrder.terminal;
  named = c.in-Ok.ensures u of_bytes;
  fault = subst (IsSortFault u.rules u.ranks) c.in-TerminalNotFirstOrder.is (c.requires.fault u of_bytes);
}

pub returns-in-SortTooLarge : goal.returns-in-SortTooLarge
returns-in-SortTooLarge c = λ u of_bytes. subst (IsSortFault u.rules u.ranks) c.in-SortTooLarge.is (c.requires.fault u of_bytes)

pub returns-in-RuleTooLong : goal.returns-in-RuleTooLong
returns-in-RuleTooLong c = λ u of_bytes. subst (IsSortFault u.rules u.ranks) c.in-RuleTooLong.is (c.requires.fault u of_bytes)
