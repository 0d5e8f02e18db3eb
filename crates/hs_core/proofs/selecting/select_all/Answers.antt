use Rattle.std.proofs.Common.{◌≡◌, ◌<◌, ℕ, refl, sym, ap, subst, length}
use Rattle.hs_flow.specs.Dependents.{HasDependents}
use Rattle.hs_history.specs.Story.{Base}
use Rattle.hs_rules.specs.Conclusions.{DeducedData}
use Rattle.hs_core.specs.declared.selecting.Progress.{Progress}
use Rattle.hs_core.specs.declared.selecting.Progress.TheVariants.{More, Done, Ended}
use Rattle.hs_core.specs.Core.{CoreData}
use Rattle.hs_core.specs.Draining.{work_left}
use Rattle.hs_core.specs.Waiting.{Waits}
use Rattle.hs_core.specs.Selecting.{IsSelecting, IsEnded, After}
use Rattle.hs_core.proofs.Moving.{alone_same, alone_trans}
use Rattle.hs_core.proofs.Selected.{selecting_first}
use Rattle.hs_core.proofs.Waits.{nothing_waits}
use Rattle.hs_core.proofs.selecting.select_all.Goals as goal

-- by what came of the turn
module _ (done : Type 0) (worker : ℕ) (old new : CoreData) (W : DeducedData → Type 0) (last : ℕ) (progress : Progress) where
  after_more : progress ≡ More → After done progress worker old new W last → (work_left new < work_left old) × IsSelecting worker new W last
  after_more is h = subst (λ p. After done p worker old new W last) is h

  after_done : progress ≡ Done → After done progress worker old new W last → done
  after_done is h = subst (λ p. After done p worker old new W last) is h

  after_ended : progress ≡ Ended → After done progress worker old new W last → IsEnded new
  after_ended is h = subst (λ p. After done p worker old new W last) is h

pub loop-progress-init : goal.loop-progress-init
loop-progress-init g c = record {
  goes = alone_same c.args.core.now c.args.core.now refl refl;
  selecting = selecting_first c.args.worker 0 c.args.core.now (Waits c.args.waiting.now.found) c.requires.flight (nothing_waits c.args.waiting.now.found (ap (λ es. length es) c.requires.empty));
}

pub select_turn-requires-clause-dependents : goal.select_turn-requires-clause-dependents
select_turn-requires-clause-dependents g c =
    subst (λ (b : Base). HasDependents b.problem.points b.problem.flow.pairs c.args.dependents.now) (sym c.loop-progress.invariant.goes.base) c.requires.dependents

pub select_turn-requires-clause-selecting : goal.select_turn-requires-clause-selecting
select_turn-requires-clause-selecting g c = c.loop-progress.invariant.selecting

pub returns-in_err-progress-clause-goes : goal.returns-in_err-progress-clause-goes
returns-in_err-progress-clause-goes g c = alone_trans c.args.core.now c.loop-progress.core c.select_turn.new.core c.loop-progress.invariant.goes c.in_err-progress.ensures.goes

pub returns-in_err-progress-clause-own : goal.returns-in_err-progress-clause-own
returns-in_err-progress-clause-own g c = c.in_err-progress.ensures.own

pub loop-progress-smaller : goal.loop-progress-smaller
loop-progress-smaller g c = (after_more _ c.args.worker c.loop-progress.core c.select_turn.new.core _ c.select_turn.new.last c.in_ok-progress.progress c.in-More.is c.in_ok-progress.ensures.after).0

pub loop-progress-preserved : goal.loop-progress-preserved
loop-progress-preserved g c = record {
  goes = alone_trans c.args.core.now c.loop-progress.core c.select_turn.new.core c.loop-progress.invariant.goes c.in_ok-progress.ensures.goes;
  selecting = (after_more _ c.args.worker c.loop-progress.core c.select_turn.new.core _ c.select_turn.new.last c.in_ok-progress.progress c.in-More.is c.in_ok-progress.ensures.after).1;
}

pub returns-in-Done-clause-goes : goal.returns-in-Done-clause-goes
returns-in-Done-clause-goes g c = alone_trans c.args.core.now c.loop-progress.core c.select_turn.new.core c.loop-progress.invariant.goes c.in_ok-progress.ensures.goes

pub returns-in-Done-clause-own : goal.returns-in-Done-clause-own
returns-in-Done-clause-own g c = c.in_ok-progress.ensures.own

pub returns-in-Done-clause-ends : goal.returns-in-Done-clause-ends
returns-in-Done-clause-ends g c = after_done _ c.args.worker c.loop-progress.core c.select_turn.new.core _ c.select_turn.new.last c.in_ok-progress.progress c.in-Done.is c.in_ok-progress.ensures.after

pub returns-in-Ended-clause-goes : goal.returns-in-Ended-clause-goes
returns-in-Ended-clause-goes g c = alone_trans c.args.core.now c.loop-progress.core c.select_turn.new.core c.loop-progress.invariant.goes c.in_ok-progress.ensures.goes

pub returns-in-Ended-clause-own : goal.returns-in-Ended-clause-own
returns-in-Ended-clause-own g c = c.in_ok-progress.ensures.own

pub returns-in-Ended-clause-ends : goal.returns-in-Ended-clause-ends
returns-in-Ended-clause-ends g c = after_ended _ c.args.worker c.loop-progress.core c.select_turn.new.core _ c.select_turn.new.last c.in_ok-progress.progress c.in-Ended.is c.in_ok-progress.ensures.after
