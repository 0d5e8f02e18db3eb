use Rattle.std.proofs.Common.{refl, sym, subst}
use Rattle.std.proofs.lemmas.Bool.{MatchBool-at_true, MatchBool-at_false}
use Rattle.hs_flow.specs.Dependents.{HasDependents}
use Rattle.hs_history.specs.Story.{Base}
use Rattle.hs_core.proofs.Moving.{alone_same, alone_trans}
use Rattle.hs_core.proofs.draining.work_alone.Goals as goal

pub loop-tally-init : goal.loop-tally-init
loop-tally-init g c = record { goes = alone_same c.args.core.now c.args.core.now refl refl; flight = c.requires.flight }

pub turn-requires-clause-flight : goal.turn-requires-clause-flight
turn-requires-clause-flight g c = c.loop-tally.invariant.flight

pub turn-requires-clause-dependents : goal.turn-requires-clause-dependents
turn-requires-clause-dependents g c =
    subst (λ (b : Base). HasDependents b.problem.points b.problem.flow.pairs c.args.dependents.now) (sym c.loop-tally.invariant.goes.base) c.requires.dependents

pub returns-in_err-turn-clause-goes : goal.returns-in_err-turn-clause-goes
returns-in_err-turn-clause-goes g c = alone_trans c.args.core.now c.loop-tally.core c.turn.new.core c.loop-tally.invariant.goes c.in_err-turn.ensures.goes

pub returns-in_err-turn-clause-flight : goal.returns-in_err-turn-clause-flight
returns-in_err-turn-clause-flight g c = c.in_err-turn.ensures.flight

pub loop-tally-smaller : goal.loop-tally-smaller
loop-tally-smaller g c = MatchBool-at_true _ _ c.if-not-branch.false c.in_ok-turn.ensures.more

pub loop-tally-preserved : goal.loop-tally-preserved
loop-tally-preserved g c = record {
  goes = alone_trans c.args.core.now c.loop-tally.core c.turn.new.core c.loop-tally.invariant.goes c.in_ok-turn.ensures.goes;
  flight = c.in_ok-turn.ensures.flight;
}

pub returns-then-not-branch-clause-goes : goal.returns-then-not-branch-clause-goes
returns-then-not-branch-clause-goes g c = alone_trans c.args.core.now c.loop-tally.core c.turn.new.core c.loop-tally.invariant.goes c.in_ok-turn.ensures.goes

pub returns-then-not-branch-clause-flight : goal.returns-then-not-branch-clause-flight
returns-then-not-branch-clause-flight g c = c.in_ok-turn.ensures.flight

pub returns-then-not-branch-clause-ends : goal.returns-then-not-branch-clause-ends
returns-then-not-branch-clause-ends g c = MatchBool-at_false _ _ c.if-not-branch.true c.in_ok-turn.ensures.more

pub select_alone-requires-clause-flight : goal.select_alone-requires-clause-flight
select_alone-requires-clause-flight g c = c.loop-tally.invariant.flight

pub select_alone-requires-clause-dependents : goal.select_alone-requires-clause-dependents
select_alone-requires-clause-dependents g c =
    subst (λ (b : Base). HasDependents b.problem.points b.problem.flow.pairs c.args.dependents.now) (sym c.loop-tally.invariant.goes.base) c.requires.dependents

pub returns-clause-goes : goal.returns-clause-goes
returns-clause-goes g c = alone_trans c.args.core.now c.loop-tally.core c.select_alone.new.core c.loop-tally.invariant.goes c.select_alone.ensures.goes
