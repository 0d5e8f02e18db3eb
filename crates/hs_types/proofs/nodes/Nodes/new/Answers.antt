use Rattle.std.proofs.Common.{ap}
use Rattle.hs_types.specs.Nodes.{lists_of}
use Rattle.hs_types.proofs.NodeLemmas.{no_nodes}
use Rattle.hs_types.proofs.nodes.Nodes.new.Goals as goal

pub invariant_of-result : goal.invariant_of-result
invariant_of-result c = no_nodes c.new.result.keys (lists_of c.new-2.result.keys) (lists_of c.new-3.result.keys) c.new.ensures.empty (ap lists_of c.new-2.ensures.empty) (ap lists_of c.new-3.ensures.empty)
