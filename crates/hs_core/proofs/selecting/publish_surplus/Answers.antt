use Rattle.std.proofs.Common.{refl}
use Rattle.hs_core.specs.Waiting.{Waits}
use Rattle.hs_core.proofs.Moving.{alone_same}
use Rattle.hs_core.proofs.Selected.{spent_still}
use Rattle.hs_core.proofs.selecting.publish_surplus.Goals as goal

pub publish_next-requires-clause-selecting : goal.publish_next-requires-clause-selecting
publish_next-requires-clause-selecting c = c.requires.selecting

pub returns-then-is_surplus-clause-after : goal.returns-then-is_surplus-clause-after
returns-then-is_surplus-clause-after c = spent_still c.args.worker c.args.ticket c.args.core.now c.publish_next.new.core (Waits c.publish_next.new.waiting.found) c.publish_next.result c.publish_next.ensures.after

pub returns-clause-goes : goal.returns-clause-goes
returns-clause-goes c = alone_same c.args.core.now c.args.core.now refl refl

pub returns-clause-own : goal.returns-clause-own
returns-clause-own c = c.requires.selecting.own

pub returns-clause-after : goal.returns-clause-after
returns-clause-after c = record { same = refl; selecting = c.requires.selecting }
