use Rattle.hs_steps.proofs.SameEnds.{ends_alike}
use Rattle.hs_steps.proofs.ends.same_trees_end_alike.Goals as goal

pub returns : goal.returns
returns c = λ ranks rules others ts are same agree n p a us path reach stuck. ends_alike ranks rules others are same ts agree n p a us path reach stuck
