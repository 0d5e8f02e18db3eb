use Rattle.hs_reads.proofs.BelowLemmas.{reached_more}
use Rattle.hs_reads.proofs.lists.Lists.reach.Goals as goal

pub loop-alloc-preserved : goal.loop-alloc-preserved
loop-alloc-preserved g c = reached_more (λ r. r.items) c.loop-alloc.self-inside.rows.items c.push.new.self.items c.new.result c.args.self.now c.in_ok-push.ensures.items c.new.ensures.items c.loop-alloc.invariant
