use Rattle.std.proofs.Common.{sym, subst}
use Rattle.hs_turn.specs.Seats.{RestsIn}
use Rattle.hs_workers_examples.proofs.resting.record_each.Goals as goal

pub for_each_mut-requires-clause-accepts : goal.for_each_mut-requires-clause-accepts
for_each_mut-requires-clause-accepts g c κs within = λ i p lt is. subst (RestsIn c.args.turn.now) (sym is) (c.requires i p.now lt)

pub returns : goal.returns
returns g c i d lt = let change = (c.for_each_mut.ensures i d lt).1 in subst (RestsIn c.args.turn.now) change.left change.call
