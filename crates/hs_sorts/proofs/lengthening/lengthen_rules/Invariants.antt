-- the rules so far are lengthened
use Rattle.std.proofs.Common.{◌≡◌}
use Rattle.hs_sorts.proofs.Lengthenings.{partly, longer_rule}
use Rattle.hs_sorts.proofs.lengthening.lengthen_rules.Given as goal

abbrev pub invariant-loop-number : goal.invariant-loop-number
invariant-loop-number l = l.rules.items ≡ partly longer_rule l.number l.fn.rules.items l.sorts
