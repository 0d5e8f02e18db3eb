use Rattle.hs_core.proofs.Moving.{alone_trans}
use Rattle.hs_core.proofs.Selected.{closed_if, ends_rest}
use Rattle.hs_core.proofs.selecting.select_alone.Goals as goal

pub select_all-done-requires-clause-empty : goal.select_all-done-requires-clause-empty
select_all-done-requires-clause-empty g c = c.new-waiting.ensures

pub end_all-requires-clause-own : goal.end_all-requires-clause-own
end_all-requires-clause-own g c = c.in-Ok.ensures.own

pub end_all-requires-clause-closed : goal.end_all-requires-clause-closed
end_all-requires-clause-closed g c = closed_if c.select_all-done.new.core c.in-Ok.closed c.in-Ok.ensures.ends

pub end_all-requires-in-Err-clause-own : goal.end_all-requires-in-Err-clause-own
end_all-requires-in-Err-clause-own g c = c.in-Err.ensures.own

pub returns-in-Ok-clause-goes : goal.returns-in-Ok-clause-goes
returns-in-Ok-clause-goes g c = alone_trans c.args.core.now c.select_all-done.new.core c.end_all.new.core c.in-Ok.ensures.goes c.end_all.ensures.goes

pub returns-in-Ok-clause-flight : goal.returns-in-Ok-clause-flight
returns-in-Ok-clause-flight g c = c.end_all.ensures.flight

pub returns-in-Ok-clause-ends : goal.returns-in-Ok-clause-ends
returns-in-Ok-clause-ends g c = ends_rest c.select_all-done.new.core c.end_all.new.core c.in-Ok.closed c.end_all.ensures.goes.base c.end_all.ensures.left c.end_all.ensures.flight c.in-Ok.ensures.ends

pub returns-in-Err-clause-goes : goal.returns-in-Err-clause-goes
returns-in-Err-clause-goes g c = alone_trans c.args.core.now c.select_all-done.new.core c.end_all-in-Err.new.core c.in-Err.ensures.goes c.end_all-in-Err.ensures.goes

pub returns-in-Err-clause-flight : goal.returns-in-Err-clause-flight
returns-in-Err-clause-flight g c = c.end_all-in-Err.ensures.flight
