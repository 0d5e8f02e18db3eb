use Rattle.hs_passes.proofs.Reaching.{reached_reachable, reachable_reached}
use Rattle.hs_passes.proofs.laws.reachable_rules_stay.Goals as goal

pub returns : goal.returns
returns c = λ rules terminals are f lt. (reached_reachable rules terminals are f, reachable_reached rules terminals are f)
