-- the types in the states so far
use Rattle.std.proofs.Common.{take}
use Rattle.hs_heads.specs.Sources.{GainsTypes, FromSome, InState}
use Rattle.hs_heads.proofs.terminals.add_terminal.Given as goal

abbrev pub invariant-loop-q : goal.invariant-loop-q
invariant-loop-q l = GainsTypes l.fn.types l.types l.fn.found.keys l.found.keys (FromSome (InState l.problem l.terminal) (take l.q-index l.states))
