use Rattle.std.proofs.Common.{◌+◌, length}
use Rattle.hs_passes.proofs.Searching.{Searched, unmarked}
use Rattle.hs_passes.proofs.reachable.reachable.Given as goal

abbrev pub invariant-loop-rule : goal.invariant-loop-rule
invariant-loop-rule l = Searched l.rules l.kept.items l.pending.items

abbrev pub decreases-loop-rule : goal.decreases-loop-rule
decreases-loop-rule l = unmarked l.kept.items + length l.pending.items
