use Rattle.hs_weak_laws.proofs.Verdict.{covering_has_start}
use Rattle.hs_weak_laws.proofs.laws.compact_tables_have_the_start.Goals as goal

pub returns : goal.returns
returns c = λ p C given closed compact. covering_has_start p given closed C compact.closed
