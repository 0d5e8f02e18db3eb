-- what the types so far are split to
use Rattle.std.proofs.Common.{take}
use Rattle.hs_heads.specs.Splits.{AreSplits}
use Rattle.hs_heads.proofs.splits.split_all.Given as goal

abbrev pub invariant-loop-ty : goal.invariant-loop-ty
invariant-loop-ty l = AreSplits l.head l.params l.count l.fn.types l.types (take l.ty-index l.tys) l.found.items
