use Rattle.hs_quick.proofs.types.Types.+strength.Given as goal

abbrev pub decreases-compare : goal.decreases-compare
decreases-compare l = l.depth

abbrev pub decreases-has_all : goal.decreases-has_all
decreases-has_all l = l.depth

abbrev pub decreases-has_one : goal.decreases-has_one
decreases-has_one l = l.depth
