use Rattle.hs_passes.proofs.Parameters.{EachIs}
use Rattle.hs_passes.proofs.aliases.are_parameters.Given as goal

abbrev pub invariant-loop-i : goal.invariant-loop-i
invariant-loop-i l = EachIs 0 l.i l.terms
