use Rattle.hs_verdict.proofs.Verdict.{complete_table}
use Rattle.hs_verdict.proofs.laws.complete_tables_have_the_start.Goals as goal

pub returns : goal.returns
returns c = λ p T given closed table. complete_table p given closed T table
