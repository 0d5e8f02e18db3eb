use Rattle.std.proofs.Common.{refl}
use Rattle.hs_choices.proofs.Pruning.{blocked}
use Rattle.hs_choices.proofs.laws.least_unions_decide_blocked.Goals as goal

pub returns : goal.returns
returns c = λ p C V given s of at B slots are kept ascend least. blocked p given C V s.point of at s B refl slots are kept ascend least
