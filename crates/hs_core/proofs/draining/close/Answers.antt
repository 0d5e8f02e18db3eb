use Rattle.std.proofs.Common.{◌≡◌, refl, sym, ap, subst, ◌∙◌, Bool, true, false, Result, Ok, IfOk, IsTrue}
use Rattle.hs_scheme.specs.declared.memory.OutOfMemory.{OutOfMemory}
use Rattle.hs_history.specs.CoreStep.{CanFinish}
use Rattle.hs_core.specs.Core.{state_of}
use Rattle.hs_core.specs.Draining.{Closes}
use Rattle.hs_core.proofs.draining.close.Goals as goal

pub finish-requires : goal.finish-requires
finish-requires c =
    let a = c.args.core.now in
    let is : c.args.all ≡ Ok true = c.in-Ok-true.is ∙ ap (λ (b : Bool). Ok b) c.in-Ok-true.field-0-test in
    subst (λ (r : Result Bool OutOfMemory). IfOk r (λ all. IsTrue all → CanFinish a.base (state_of a) c.args.worker c.args.ticket)) is c.requires.closed refl

pub give_back-requires : goal.give_back-requires
give_back-requires c = c.requires.holds

pub give_back-requires-in-Err : goal.give_back-requires-in-Err
give_back-requires-in-Err c = c.requires.holds

pub returns-in-Ok-true-clause-same : goal.returns-in-Ok-true-clause-same
returns-in-Ok-true-clause-same c = sym (c.in-Ok-true.is ∙ ap (λ (b : Bool). Ok b) c.in-Ok-true.field-0-test)

pub returns-in-Ok-true-clause-closes : goal.returns-in-Ok-true-clause-closes
returns-in-Ok-true-clause-closes c =
    let is : c.args.all ≡ Ok true = c.in-Ok-true.is ∙ ap (λ (b : Bool). Ok b) c.in-Ok-true.field-0-test in
    subst (λ (r : Result Bool OutOfMemory). Closes c.args.core.now c.args.worker c.args.ticket r c.finish.new.self) (sym is) c.finish.ensures

pub returns-in-Ok-false-clause-same : goal.returns-in-Ok-false-clause-same
returns-in-Ok-false-clause-same c = sym (c.in-Ok-false.is ∙ ap (λ (b : Bool). Ok b) c.in-Ok-false.field-0-test)

pub returns-in-Ok-false-clause-closes : goal.returns-in-Ok-false-clause-closes
returns-in-Ok-false-clause-closes c =
    let is : c.args.all ≡ Ok false = c.in-Ok-false.is ∙ ap (λ (b : Bool). Ok b) c.in-Ok-false.field-0-test in
    subst (λ (r : Result Bool OutOfMemory). Closes c.args.core.now c.args.worker c.args.ticket r c.give_back.new.self) (sym is) c.give_back.ensures

pub returns-in-Err-clause-same : goal.returns-in-Err-clause-same
returns-in-Err-clause-same c = sym c.in-Err.is

pub returns-in-Err-clause-closes : goal.returns-in-Err-clause-closes
returns-in-Err-clause-closes c =
    subst (λ (r : Result Bool OutOfMemory). Closes c.args.core.now c.args.worker c.args.ticket r c.give_back-in-Err.new.self) (sym c.in-Err.is) c.give_back-in-Err.ensures
