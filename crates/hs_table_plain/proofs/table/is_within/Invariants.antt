-- those so far lead to states
use Rattle.std.proofs.Common.{◌<◌, take, All}
use Rattle.hs_scheme.specs.acceptance.Transition.{TransitionData}
use Rattle.hs_table_plain.proofs.table.is_within.Given as goal

abbrev pub invariant-loop-transition : goal.invariant-loop-transition
invariant-loop-transition l = All (λ (t : TransitionData). All (λ q. q < l.states) t.to) (take l.transition-index l.transition-items)
