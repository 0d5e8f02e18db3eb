use Rattle.hs_checker.proofs.CountLemmas.{no_fault}
use Rattle.hs_checker.proofs.laws.closed_tables_have_no_fault.Goals as goal

pub returns : goal.returns
returns c = no_fault
