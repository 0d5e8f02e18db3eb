use Rattle.std.proofs.Common.{refl, ◌∙◌}
use Rattle.hs_workers.proofs.HoldLemmas.{goes_none, goes_trans}
use Rattle.hs_workers.proofs.handing.take_some.Goals as goal

pub loop-init : goal.loop-init
loop-init c = record {
  goes = goes_none c.args.seat.now c.args.hold.now c.requires.holds;
  log = refl;
  carries = c.requires.carries;
  all = c.requires.all;
  unformed = c.requires.unformed;
}

pub loop-preserved : goal.loop-preserved
loop-preserved c = record {
  goes = goes_trans c.args.seat.now c.loop.seat c.take_one.new.seat c.args.hold.now c.loop.hold c.take_one.new.hold c.loop.invariant.goes c.take_one.ensures.goes;
  log = c.take_one.ensures.log ∙ c.loop.invariant.log;
  carries = c.take_one.ensures.carries;
  all = c.take_one.ensures.all;
  unformed = c.take_one.ensures.unformed;
}

pub returns-in-Ok-Idle-clause-goes : goal.returns-in-Ok-Idle-clause-goes
returns-in-Ok-Idle-clause-goes c =
    goes_trans c.args.seat.now c.loop.seat c.take_one.new.seat c.args.hold.now c.loop.hold c.take_one.new.hold c.loop.invariant.goes c.take_one.ensures.goes

pub returns-in-Ok-Idle-clause-log : goal.returns-in-Ok-Idle-clause-log
returns-in-Ok-Idle-clause-log c = c.take_one.ensures.log ∙ c.loop.invariant.log

pub returns-in-Ok-Idle-clause-carries : goal.returns-in-Ok-Idle-clause-carries
returns-in-Ok-Idle-clause-carries c = c.take_one.ensures.carries

pub returns-in-Ok-Idle-clause-unformed : goal.returns-in-Ok-Idle-clause-unformed
returns-in-Ok-Idle-clause-unformed c = c.take_one.ensures.unformed

pub returns-in-Err-clause-goes : goal.returns-in-Err-clause-goes
returns-in-Err-clause-goes c =
    goes_trans c.args.seat.now c.loop.seat c.take_one.new.seat c.args.hold.now c.loop.hold c.take_one.new.hold c.loop.invariant.goes c.take_one.ensures.goes

pub returns-in-Err-clause-log : goal.returns-in-Err-clause-log
returns-in-Err-clause-log c = c.take_one.ensures.log ∙ c.loop.invariant.log

pub returns-in-Err-clause-carries : goal.returns-in-Err-clause-carries
returns-in-Err-clause-carries c = c.take_one.ensures.carries

pub returns-in-Err-clause-unformed : goal.returns-in-Err-clause-unformed
returns-in-Err-clause-unformed c = c.take_one.ensures.unformed

pub returns-in-Ok-Idle-clause-all : goal.returns-in-Ok-Idle-clause-all
returns-in-Ok-Idle-clause-all c = c.take_one.ensures.all

pub returns-in-Err-clause-all : goal.returns-in-Err-clause-all
returns-in-Err-clause-all c = c.take_one.ensures.all
