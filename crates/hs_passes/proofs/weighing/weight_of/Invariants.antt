-- the rules, and the parameters of those so far
use Rattle.std.proofs.Common.{◌≡◌, ◌+◌, length, take}
use Rattle.std.specs.Prelude.{sum_by}
use Rattle.hs_passes.specs.Weight.{params_of}
use Rattle.hs_passes.proofs.weighing.weight_of.Given as goal

abbrev pub invariant-loop-rule : goal.invariant-loop-rule
invariant-loop-rule l = l.weight ≡ length l.rules + sum_by params_of (take l.rule-index l.rules)
