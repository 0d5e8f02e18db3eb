use Rattle.hs_minimal.proofs.SettlingLemmas.{added_more}
use Rattle.hs_minimal.proofs.selecting.add_other_args.Goals as goal

pub loop-arg-preserved : goal.loop-arg-preserved
loop-arg-preserved c = added_more c.args.growing.now c.args.types.now c.requires.growing _ c.loop-arg.rows.items c.add_rows.new.rows.items c.in_ok-add_rows.ensures c.loop-arg.invariant
