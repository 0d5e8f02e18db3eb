use Rattle.hs_weak_laws.proofs.NeverVoid.{never_void}
use Rattle.hs_weak_laws.proofs.laws.built_tuples_are_never_void.Goals as goal

pub returns : goal.returns
returns c = never_void
