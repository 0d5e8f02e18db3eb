-- no row stands at the arguments so far
use Rattle.std.proofs.Common.{take}
use Rattle.hs_types.specs.Interned.{InternerData}
use Rattle.hs_checker.specs.Slots.{AreBare}
use Rattle.hs_checker.specs.Numbers.{entries_of}
use Rattle.hs_checker.proofs.terminals.are_bare.Given as goal

abbrev pub invariant-loop-arg : goal.invariant-loop-arg
invariant-loop-arg l = (I : InternerData) → AreBare (entries_of I l.index) (take l.arg-index l.args)
