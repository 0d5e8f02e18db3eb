-- the marks so far are of complete terminals
use Rattle.hs_checker.specs.Slots.{AreComplete}
use Rattle.hs_checker.proofs.terminals.complete_terminals.Given as goal

abbrev pub invariant-loop-transition : goal.invariant-loop-transition
invariant-loop-transition l = AreComplete l.problem l.marks.items
