use Rattle.std.proofs.Common.{arith}
use Rattle.hs_types.specs.Interned.{type_of_id}
use Rattle.hs_types.proofs.AddLemmas.{guessed}
use Rattle.hs_types.proofs.nodes.Nodes.guessed_set.Goals as goal

pub returns : goal.returns
returns c =
    guessed (type_of_id c.args.self.now) c.args.self.now.sets c.args.guess c.members.result.now c.args.types.now c.ne.result (omega (arith, c.if-number-count_sets.false, c.number.ensures, c.count_sets.ensures))
    c.members.ensures.members c.ne.ensures c.if-ne.false
