use Rattle.hs_replica.proofs.KeptLemmas.{row_same}
use Rattle.hs_types.specs.contracts.ids.RowPartialEq.TheImpl.{eq-value}
use Rattle.hs_rules.proofs.SetLemmas.{set_new}
use Rattle.hs_rules.proofs.found.keep.Goals as goal

pub returns-clause-more : goal.returns-clause-more
returns-clause-more c = λ _. set_new eq-value.it row_same c.args.rows.now.keys c.insert.new.self.keys c.args.row c.in_ok-insert.ensures.keys c.requires
