-- the states so far have one
use Rattle.std.proofs.Common.{ℕ, ◌<◌}
use Rattle.hs_table.specs.Follows.{HasMove}
use Rattle.hs_rules.proofs.seeds.moves_everywhere.Given as goal

abbrev pub invariant-loop-q : goal.invariant-loop-q
invariant-loop-q l = (k : ℕ) → k < l.q → HasMove l.automaton.transitions l.terminal l.count k
