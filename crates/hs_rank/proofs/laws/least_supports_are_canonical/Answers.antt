use Rattle.hs_rank.proofs.Fronts.{canonical_of}
use Rattle.hs_rank.proofs.laws.least_supports_are_canonical.Goals as goal

pub returns : goal.returns
returns c = λ p T n front e s is rank least. canonical_of p T n front e is rank s least
