use Rattle.std.proofs.Common.{arith}
use Rattle.hs_reads.proofs.BitLemmas.{bit_added}
use Rattle.hs_reads.proofs.bits.set_bit.Goals as goal

pub returns-clause-added : goal.returns-clause-added
returns-clause-added c =
    bit_added c.args.words.now.items c.reach.new.words.items c.args.number c.index_mut.result.now (omega (arith, c.in_ok-reach.ensures.len, c.reach.new.words.ok)) c.in_ok-reach.ensures.same c.index_mut.ensures.value
