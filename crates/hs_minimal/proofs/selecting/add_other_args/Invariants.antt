-- all were added
use Rattle.hs_minimal.specs.Growing.{AreAdded}
use Rattle.hs_minimal.proofs.selecting.add_other_args.Given as goal

abbrev pub invariant-loop-arg : goal.invariant-loop-arg
invariant-loop-arg l = AreAdded l.growing l.rows.items
