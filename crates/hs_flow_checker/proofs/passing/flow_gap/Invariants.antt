-- the pairs of the arguments so far are held
use Rattle.hs_flow_checker.proofs.GapLemmas.{HoldsArguments}
use Rattle.hs_flow_checker.proofs.passing.flow_gap.Given as goal

abbrev pub invariant-loop-number : goal.invariant-loop-number
invariant-loop-number l = HoldsArguments l.problem l.bases l.args l.number
