use Rattle.hs_workers.proofs.saturating.end_by_one.Goals as goal

pub select_alone-requires-clause-flight : goal.select_alone-requires-clause-flight
select_alone-requires-clause-flight g c = c.nothing_flies.ensures.0 c.if-not-nothing_flies.false
