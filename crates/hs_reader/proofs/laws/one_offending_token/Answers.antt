use Rattle.hs_reader.proofs.Unique.{one_offends}
use Rattle.hs_reader.proofs.laws.one_offending_token.Goals as goal

pub returns : goal.returns
returns c = one_offends
