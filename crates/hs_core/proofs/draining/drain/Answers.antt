use Rattle.std.proofs.Common.{◌≡◌, sym, ap, subst, ◌∙◌, ◌++◌, All, append_assoc}
use Rattle.hs_flow.specs.Dependents.{HasDependents}
use Rattle.hs_history.specs.Story.{Base, Story}
use Rattle.hs_history.specs.CoreStep.{State}
use Rattle.hs_history.specs.History.{state_after}
use Rattle.hs_core.specs.Core.{CoreData, state_of}
use Rattle.hs_core.specs.Draining.{GoesAlone, NothingFlies}
use Rattle.hs_core.specs.Saturation.{GivesBack, Drains}
use Rattle.hs_core.proofs.draining.drain.Goals as goal

-- all works in flight are given back, and then worker 0 does some steps
drains : (a b d : CoreData) → b.base ≡ a.base → (more : Story) × (b.story ≡ a.story ++ more) × All GivesBack more → NothingFlies b → GoesAlone 0 b d → Drains a.base a.story d.story
drains a b d base gives none goes =
    let same : state_of b ≡ state_after a.base (a.story ++ gives.0) = λ i. state_after (base i) (gives.1 i) in
    record {
      given_back = gives.0;
      own = goes.more;
      story = goes.story ∙ ap (λ xs. xs ++ goes.more) gives.1 ∙ append_assoc a.story gives.0 goes.more;
      gives = gives.2;
      flight = λ t. sym (ap (λ (s : State). s.flight t) same) ∙ none t;
      alone = goes.alone;
    }

pub work_alone-requires-clause-flight : goal.work_alone-requires-clause-flight
work_alone-requires-clause-flight c = c.give_back_all.ensures.flight

pub work_alone-requires-clause-dependents : goal.work_alone-requires-clause-dependents
work_alone-requires-clause-dependents c =
    subst (λ (b : Base). HasDependents b.problem.points b.problem.flow.pairs c.args.dependents.now) (sym c.give_back_all.ensures.base) c.requires

pub returns-in_err-work_alone-clause-base : goal.returns-in_err-work_alone-clause-base
returns-in_err-work_alone-clause-base c = c.in_err-work_alone.ensures.goes.base ∙ c.give_back_all.ensures.base

pub returns-in_err-work_alone-clause-story : goal.returns-in_err-work_alone-clause-story
returns-in_err-work_alone-clause-story c = drains c.args.core.now c.give_back_all.new.core c.work_alone.new.core c.give_back_all.ensures.base c.give_back_all.ensures.story c.give_back_all.ensures.flight c.in_err-work_alone.ensures.goes

pub returns-in_err-work_alone-clause-flight : goal.returns-in_err-work_alone-clause-flight
returns-in_err-work_alone-clause-flight c = c.in_err-work_alone.ensures.flight

pub answer-requires : goal.answer-requires
answer-requires c = c.in_ok-work_alone.ensures.ends

pub returns-clause-drained : goal.returns-clause-drained
returns-clause-drained c = c.answer.ensures

pub returns-clause-base : goal.returns-clause-base
returns-clause-base c = c.in_ok-work_alone.ensures.goes.base ∙ c.give_back_all.ensures.base

pub returns-clause-story : goal.returns-clause-story
returns-clause-story c = drains c.args.core.now c.give_back_all.new.core c.work_alone.new.core c.give_back_all.ensures.base c.give_back_all.ensures.story c.give_back_all.ensures.flight c.in_ok-work_alone.ensures.goes

pub returns-clause-flight : goal.returns-clause-flight
returns-clause-flight c = c.in_ok-work_alone.ensures.flight
