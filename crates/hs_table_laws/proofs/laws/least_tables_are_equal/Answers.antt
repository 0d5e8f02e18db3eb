use Rattle.hs_table_laws.proofs.Least.{supported_within, supported_fewer, least_same, least_decides, supports_support}
use Rattle.hs_table_laws.proofs.laws.least_tables_are_equal.Goals as goal

pub returns : goal.returns
returns c = record { within = supported_within; fewer = supported_fewer; same = least_same; exceeds = least_decides; supports = supports_support }
