use Rattle.hs_passes.proofs.Settling.{Narrowed}
use Rattle.hs_passes.proofs.needing.narrow.Given as goal

abbrev pub invariant-loop-i : goal.invariant-loop-i
invariant-loop-i l = Narrowed l.initial.flags l.needed l.flags l.changed l.i
