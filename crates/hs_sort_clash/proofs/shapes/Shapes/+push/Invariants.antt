-- the parts of a sort are shown less deep
use Rattle.hs_sort_clash.proofs.shapes.Shapes.+push.Given as goal

abbrev pub decreases-push : goal.decreases-push
decreases-push l = l.depth
