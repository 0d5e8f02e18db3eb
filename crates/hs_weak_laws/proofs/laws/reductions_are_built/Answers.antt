use Rattle.hs_weak_laws.proofs.Reached.{reached_built}
use Rattle.hs_weak_laws.proofs.laws.reductions_are_built.Goals as goal

pub returns : goal.returns
returns c = λ p given closed x ds h. reached_built p given closed x ds h
