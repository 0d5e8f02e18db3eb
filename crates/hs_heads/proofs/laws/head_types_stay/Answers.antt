use Rattle.hs_heads.proofs.Staying.{head_types_stay}
use Rattle.hs_heads.proofs.laws.head_types_stay.Goals as goal

pub returns : goal.returns
returns c = λ p C R point of I J found g are. head_types_stay p C R point of I J g found are
