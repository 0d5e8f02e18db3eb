-- it has one in the states so far
use Rattle.std.proofs.Common.{ℕ, take, Contains}
use Rattle.hs_table.specs.Follows.{HasMove}
use Rattle.hs_certificate_checker.proofs.idle.moves_in_each.Given as goal

abbrev pub invariant-loop-q : goal.invariant-loop-q
invariant-loop-q l = (q : ℕ) → Contains (take l.q-index l.states) q → HasMove l.problem.sorted.automaton.transitions l.terminal l.count q
