-- the places so far are the same
use Rattle.std.proofs.Common.{◌≡◌, take}
use Rattle.hs_rules.specs.Order.{chosen_places}
use Rattle.hs_rules.proofs.extending.have_same.Given as goal

abbrev pub invariant-loop-number : goal.invariant-loop-number
invariant-loop-number l = take l.number (chosen_places l.one) ≡ take l.number (chosen_places l.other)
