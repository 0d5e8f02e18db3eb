-- the environments so far have the choice
use Rattle.std.proofs.Common.{◌≡◌, ◌++◌, map, take, drop}
use Rattle.hs_rules.specs.Joins.{PartialData, with_choice}
use Rattle.hs_rules.proofs.joining.choose_sole.Given as goal

abbrev pub invariant-loop-partial : goal.invariant-loop-partial
invariant-loop-partial l = l.partials ≡ map (λ (x : PartialData). with_choice l.candidate.arg l.candidate.at l.candidate.place x) (take l.partial-index l.fn.partials) ++ drop l.partial-index l.fn.partials
