-- the terminals so far have the sorts of their ranks
use Rattle.std.proofs.Common.{◌+◌}
use Rattle.hs_sorts.specs.Constraints.{Claims, IsRankedIf}
use Rattle.hs_sorts.specs.Solving.{EachBefore}
use Rattle.hs_sorts.proofs.solve.make_terminals.Given as goal

abbrev pub invariant-loop-terminal : goal.invariant-loop-terminal
invariant-loop-terminal l = Claims l.fn.store l.store (EachBefore (λ a rank. IsRankedIf (l.rules + a) rank) l.ranks l.terminal)
