-- each start so far parts the pairs, and there is room for all
use Rattle.std.proofs.Common.{◌≤◌, ◌+◌, sum, vec_capacity}
use Rattle.hs_scheme.specs.flow.FlowRows.{StartsSoFar}
use Rattle.hs_scheme.proofs.flow.starts_of.Given as goal

abbrev pub invariant-loop-place : goal.invariant-loop-place
invariant-loop-place l = record { parted : StartsSoFar l.params l.pairs l.place l.starts.items; room : sum l.params + 1 ≤ vec_capacity l.starts }
