use Rattle.std.proofs.lemmas.Result.{on_ok_weaker}
use Rattle.hs_reads.proofs.BitLemmas.{first_bits, next_bits}
use Rattle.hs_reads.proofs.state_set.add_bit.Goals as goal

pub returns-then-states-gt-LOOKED_THROUGH-clause-added : goal.returns-then-states-gt-LOOKED_THROUGH-clause-added
returns-then-states-gt-LOOKED_THROUGH-clause-added c = on_ok_weaker c.set_bit.result
    (λ added. next_bits c.args.states.now c.args.words.now.items c.set_bit.new.words.items c.args.state (c.requires c.if-states-gt-LOOKED_THROUGH.true) added) c.set_bit.ensures.added

pub returns-clause-added : goal.returns-clause-added
returns-clause-added c = on_ok_weaker c.set_bit-2.result (λ added. next_bits c.args.states.now c.set_bits.new.words.items c.set_bit-2.new.words.items c.args.state
    (first_bits c.args.states.now c.clear.new.self.items c.set_bits.new.words.items c.clear.ensures.items c.in_ok-set_bits.ensures) added) c.set_bit-2.ensures.added
