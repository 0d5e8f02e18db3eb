-- the rules so far have what they ask for
use Rattle.std.proofs.Common.{length}
use Rattle.hs_sorts.specs.Constraints.{Claims, IsRuled}
use Rattle.hs_sorts.specs.Solving.{EachBefore}
use Rattle.hs_sorts.proofs.solve.make_rules.Given as goal

abbrev pub invariant-loop-number : goal.invariant-loop-number
invariant-loop-number l = Claims l.fn.store l.store (EachBefore (IsRuled (length l.rules) l.count) l.rules l.number)
