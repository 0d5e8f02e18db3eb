use Rattle.hs_replica.proofs.Firsts.{first_like}
use Rattle.hs_replica.proofs.lookups.each_entry_has_a_first.Goals as goal

pub returns : goal.returns
returns c = first_like
