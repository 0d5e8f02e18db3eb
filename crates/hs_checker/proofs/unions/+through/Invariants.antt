use Rattle.std.proofs.Common.{length}
use Rattle.hs_checker.proofs.unions.+through.Given as goal

abbrev pub decreases-through : goal.decreases-through
decreases-through l = length l.args.now
