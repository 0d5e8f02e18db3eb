-- the arguments so far are in range
use Rattle.std.proofs.Common.{take}
use Rattle.hs_scheme.specs.Tree.{forest}
use Rattle.hs_scheme.specs.Scheme.{TermsInRange}
use Rattle.hs_scheme.proofs.checked.+is_in_range.Given as goal

abbrev pub invariant-loop-arg : goal.invariant-loop-arg
invariant-loop-arg l = TermsInRange l.params l.rules l.terminals (forest (take l.arg-index l.arg-items))
