-- the term has the arguments so far
use Rattle.std.proofs.Common.{◌≡◌}
use Rattle.hs_scheme.specs.Tree.{node, forest}
use Rattle.hs_scheme.specs.acceptance.Replacement.{applied}
use Rattle.hs_scheme.specs.sorting.Lengthening.{parameters}
use Rattle.hs_sorts.proofs.lengthening.add_arguments.Given as goal

abbrev pub invariant-loop-number : goal.invariant-loop-number
invariant-loop-number l = node l.term-inside.head (forest l.term-inside.args.items) ≡ applied l.fn.term (parameters l.fn.first l.number)
