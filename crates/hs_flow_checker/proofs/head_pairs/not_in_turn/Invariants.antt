-- the bases so far stand at their turns
use Rattle.std.proofs.Common.{take, Contains}
use Rattle.hs_scheme.specs.declared.flow.HeadPair.{HeadPair}
use Rattle.hs_flow_checker.specs.PassedOn.{HasTaken}
use Rattle.hs_flow_checker.proofs.head_pairs.not_in_turn.Given as goal

abbrev pub invariant-loop-number : goal.invariant-loop-number
invariant-loop-number l = (b : HeadPair) → Contains (take l.number l.bases) b → HasTaken l.pairs b l.count
