-- the bits of the states that were taken are set, too
use Rattle.std.proofs.Common.{ℕ, take, Contains, ◌⊎◌, ◌↔◌}
use Rattle.hs_reads.specs.Bits.{HasBit}
use Rattle.hs_reads.proofs.state_set.set_bits.Given as goal

abbrev pub invariant-loop-state : goal.invariant-loop-state
invariant-loop-state l = (q : ℕ) → HasBit l.words.items q ↔ (HasBit l.initial.words.items q ⊎ Contains (take l.state-index l.states) q)
