use Rattle.std.proofs.Common.{get_or}
use Rattle.std.proofs.lemmas.List.{get_or_default}
use Rattle.hs_reads.proofs.BitLemmas.{bits_none, bits_more, bits_all}
use Rattle.hs_reads.proofs.state_set.set_bits.Goals as goal

pub loop-state-init : goal.loop-state-init
loop-state-init c = bits_none c.args.words.now.items c.args.states.now

pub loop-state-preserved : goal.loop-state-preserved
loop-state-preserved c =
    let states = c.args.states.now in
    let k = c.loop-state.state-index in
    let x = get_or states k 0 in
    bits_more c.args.words.now.items c.loop-state.words.items c.set_bit.new.words.items states k x c.loop-state-test.true (get_or_default states k 0 x c.loop-state-test.true) c.loop-state.invariant c.in_ok-set_bit.ensures.added

pub returns : goal.returns
returns c = bits_all c.args.words.now.items c.loop-state.words.items c.args.states.now c.loop-state.state-index c.loop-state-test.false c.loop-state.invariant
