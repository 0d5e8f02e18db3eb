use Rattle.hs_weak_laws.proofs.Verdict.{same_weakly, closed_has_start}
use Rattle.hs_weak_laws.proofs.laws.closed_tables_are_a_case.Goals as goal

pub returns : goal.returns
returns c = record { follows = same_weakly; start = λ p T given closed table. closed_has_start p given closed T table }
