use Rattle.hs_reads.proofs.ReadLemmas.{same_reads}
use Rattle.hs_reads.proofs.laws.own_reads_are_one.Goals as goal

pub returns : goal.returns
returns c = λ p R S r s x. (same_reads p R S r s x, same_reads p S R s r x)
