use Rattle.hs_table_laws.proofs.Growing.{follows_found, by_append, by_take}
use Rattle.hs_table_laws.proofs.laws.follows_grows.Goals as goal

pub returns : goal.returns
returns c = record { more = follows_found; appended = by_append; front = by_take }
