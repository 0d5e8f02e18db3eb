use Rattle.hs_choices.proofs.Pruning.{follow, settled}
use Rattle.hs_choices.proofs.laws.least_unions_decide_missing.Goals as goal

pub returns : goal.returns
returns c = record {
  follow = λ p C V given point of at. follow p given C V point of at;
  settled = λ p C V given point of at. settled p given C V point of at;
}
