use Rattle.std.proofs.Common.{◌∙◌, ap, ℕ, List}
use Rattle.hs_reads.specs.Bits.{word_at}
use Rattle.hs_reads.proofs.BitLemmas.{word_more}
use Rattle.hs_reads.proofs.bits.reach.Goals as goal

pub loop-words-preserved : goal.loop-words-preserved
loop-words-preserved c = λ k. ap (λ (words : List ℕ). word_at words k) c.in_ok-push.ensures.items ∙ (word_more c.loop-words.words.items k ∙ c.loop-words.invariant k)
