use Rattle.hs_types.proofs.UnionLemmas.{no_unions}
use Rattle.hs_types.proofs.interner.Interner.new.Goals as goal

pub invariant_of-result : goal.invariant_of-result
invariant_of-result c = no_unions c.new.result c.new-2.result.known.items c.new-3.result.known.items c.new-2.ensures c.new-3.ensures

pub returns : goal.returns
returns c = c.new.ensures
