use Rattle.std.proofs.Common.{sym, ap, subst, ◌∙◌, Bool, Result}
use Rattle.hs_scheme.specs.declared.memory.OutOfMemory.{OutOfMemory}
use Rattle.hs_flow.specs.Dependents.{HasDependents}
use Rattle.hs_history.specs.Story.{Base}
use Rattle.hs_history.specs.CoreStep.{IsClosedWork, CanFinish}
use Rattle.hs_core.specs.Core.{CoreData, state_of, log_of}
use Rattle.hs_core.proofs.Moving.{Moves, alone_same, nothing_flies, not_taken, holds_new, taken_work, work_taken}
use Rattle.hs_core.proofs.Turning.{TurnEnds, holds_then, closed_turn, turn_behind, may_close}
use Rattle.hs_core.proofs.draining.turn.Goals as goal

pub returns-in_err-reserve_some-clause-goes : goal.returns-in_err-reserve_some-clause-goes
returns-in_err-reserve_some-clause-goes g c =
    let same = c.in_err-reserve_some.ensures.err in
    alone_same c.args.core.now c.reserve_some.new.self (ap (λ (x : CoreData). x.base) same) (ap (λ (x : CoreData). x.story) same)

pub returns-in_err-reserve_some-clause-flight : goal.returns-in_err-reserve_some-clause-flight
returns-in_err-reserve_some-clause-flight g c =
    let same = c.in_err-reserve_some.ensures.err in
    nothing_flies c.args.core.now c.reserve_some.new.self (ap (λ (x : CoreData). x.base) same) (ap (λ (x : CoreData). x.story) same) c.requires.flight

pub seed_turn-requires-clause-flight : goal.seed_turn-requires-clause-flight
seed_turn-requires-clause-flight g c =
    let r = c.in_ok-reserve_some.ensures.same in
    nothing_flies c.args.core.now c.reserve_some.new.self (ap (λ (x : CoreData). x.base) r) (ap (λ (x : CoreData). x.story) r) c.requires.flight

pub returns-in-Some-clause-goes : goal.returns-in-Some-clause-goes
returns-in-Some-clause-goes g c =
    let r = c.in_ok-reserve_some.ensures.same in
    let ends : TurnEnds c.args.worker c.reserve_some.new.self c.seed_turn.new.core c.seed_turn.result = record { goes = c.seed_turn.ensures.goes; flight = c.seed_turn.ensures.flight; more = c.seed_turn.ensures.more } in
    (turn_behind c.args.core.now c.reserve_some.new.self (ap (λ (x : CoreData). x.base) r) (ap (λ (x : CoreData). x.story) r) c.seed_turn.new.core c.seed_turn.result ends).goes

pub returns-in-Some-clause-flight : goal.returns-in-Some-clause-flight
returns-in-Some-clause-flight g c =
    let r = c.in_ok-reserve_some.ensures.same in
    let ends : TurnEnds c.args.worker c.reserve_some.new.self c.seed_turn.new.core c.seed_turn.result = record { goes = c.seed_turn.ensures.goes; flight = c.seed_turn.ensures.flight; more = c.seed_turn.ensures.more } in
    (turn_behind c.args.core.now c.reserve_some.new.self (ap (λ (x : CoreData). x.base) r) (ap (λ (x : CoreData). x.story) r) c.seed_turn.new.core c.seed_turn.result ends).flight

pub returns-in-Some-clause-more : goal.returns-in-Some-clause-more
returns-in-Some-clause-more g c =
    let r = c.in_ok-reserve_some.ensures.same in
    let ends : TurnEnds c.args.worker c.reserve_some.new.self c.seed_turn.new.core c.seed_turn.result = record { goes = c.seed_turn.ensures.goes; flight = c.seed_turn.ensures.flight; more = c.seed_turn.ensures.more } in
    (turn_behind c.args.core.now c.reserve_some.new.self (ap (λ (x : CoreData). x.base) r) (ap (λ (x : CoreData). x.story) r) c.seed_turn.new.core c.seed_turn.result ends).more

pub returns-in_default-take : goal.returns-in_default-take
returns-in_default-take g c =
    let r = c.in_ok-reserve_some.ensures.same in
    let base = ap (λ (x : CoreData). x.base) r in
    let story = ap (λ (x : CoreData). x.story) r in
    let free = nothing_flies c.args.core.now c.reserve_some.new.self base story c.requires.flight in
    let n = not_taken c.args.worker c.reserve_some.new.self c.take.new.self c.take.result c.in_default-take.not-Item free c.take.ensures in
    record {
      goes = alone_same c.args.core.now c.take.new.self (ap (λ (x : CoreData). x.base) n.0 ∙ base) (ap (λ (x : CoreData). x.story) n.0 ∙ story);
      flight = λ t. ap (λ (x : CoreData). (state_of x).flight t) n.0 ∙ free t;
      more = n.1;
    }

pub conclude-all-requires-clause-holds : goal.conclude-all-requires-clause-holds
conclude-all-requires-clause-holds g c = (c.in-Item.work, holds_new c.reserve_some.new.self c.take.new.self c.in-Item.work c.in-Item.ticket _ c.in-Item.ensures.1)

pub conclude-all-requires-clause-work : goal.conclude-all-requires-clause-work
conclude-all-requires-clause-work g c =
    work_taken c.args.worker c.reserve_some.new.self c.take.new.self c.in-Item.work c.in-Item.ticket _ (taken_work c.reserve_some.new.self c.in-Item.work c.know_core.ensures.legal c.in-Item.ensures.0.pending) c.in-Item.ensures.1

pub conclude-all-requires-clause-dependents : goal.conclude-all-requires-clause-dependents
conclude-all-requires-clause-dependents g c =
    subst (λ (b : Base). HasDependents b.problem.points b.problem.flow.pairs c.args.dependents.now) (sym (ap (λ (x : CoreData). x.base) c.in-Item.ensures.1 ∙ ap (λ (x : CoreData). x.base) c.in_ok-reserve_some.ensures.same)) c.requires.dependents

pub close-requires-clause-holds : goal.close-requires-clause-holds
close-requires-clause-holds g c =
    let r = c.in_ok-reserve_some.ensures.same in
    let a = c.reserve_some.new.self in
    let b = c.take.new.self in
    let e = c.conclude-all.new.core in
    let free = nothing_flies c.args.core.now a (ap (λ (x : CoreData). x.base) r) (ap (λ (x : CoreData). x.story) r) c.requires.flight in
    let moves : Moves c.args.worker b e = record { alone = c.conclude-all.ensures.goes; flight = c.conclude-all.ensures.flight; lighter = c.conclude-all.ensures.work_left } in
    (c.in-Item.work, holds_then a b e e c.in-Item.work c.in-Item.ticket _ 0 free c.in-Item.ensures.0 c.in-Item.ensures.1 moves)

pub close-requires-clause-closed : goal.close-requires-clause-closed
close-requires-clause-closed g c =
    let r = c.in_ok-reserve_some.ensures.same in
    let a = c.reserve_some.new.self in
    let b = c.take.new.self in
    let e = c.conclude-all.new.core in
    let free = nothing_flies c.args.core.now a (ap (λ (x : CoreData). x.base) r) (ap (λ (x : CoreData). x.story) r) c.requires.flight in
    let moves : Moves c.args.worker b e = record { alone = c.conclude-all.ensures.goes; flight = c.conclude-all.ensures.flight; lighter = c.conclude-all.ensures.work_left } in
    let holds = holds_then a b e e c.in-Item.work c.in-Item.ticket _ 0 free c.in-Item.ensures.0 c.in-Item.ensures.1 moves in
    may_close (IsClosedWork e.base.problem (log_of e) c.in-Item.work) _ (CanFinish e.base (state_of e) c.args.worker c.in-Item.ticket) c.conclude-all.result
    (λ closed. record { work = c.in-Item.work; holds = holds; closed = closed }) c.conclude-all.ensures.closed

pub returns-clause-goes : goal.returns-clause-goes
returns-clause-goes g c =
    let r = c.in_ok-reserve_some.ensures.same in
    let a = c.reserve_some.new.self in
    let b = c.take.new.self in
    let e = c.conclude-all.new.core in
    let d = c.close.new.core in
    let base = ap (λ (x : CoreData). x.base) r in
    let story = ap (λ (x : CoreData). x.story) r in
    let free = nothing_flies c.args.core.now a base story c.requires.flight in
    let moves : Moves c.args.worker b e = record { alone = c.conclude-all.ensures.goes; flight = c.conclude-all.ensures.flight; lighter = c.conclude-all.ensures.work_left } in
    let ends = closed_turn a b e d c.in-Item.work c.in-Item.ticket _ free c.in-Item.ensures.0 c.in-Item.ensures.1 moves (IsClosedWork e.base.problem (log_of e) c.in-Item.work) c.conclude-all.result c.close.ensures.closes c.conclude-all.ensures.closed in
    (turn_behind c.args.core.now a base story d c.close.result (subst (λ (x : Result Bool OutOfMemory). TurnEnds c.args.worker a d x) (sym c.close.ensures.same) ends)).goes

pub returns-clause-flight : goal.returns-clause-flight
returns-clause-flight g c =
    let r = c.in_ok-reserve_some.ensures.same in
    let a = c.reserve_some.new.self in
    let b = c.take.new.self in
    let e = c.conclude-all.new.core in
    let d = c.close.new.core in
    let base = ap (λ (x : CoreData). x.base) r in
    let story = ap (λ (x : CoreData). x.story) r in
    let free = nothing_flies c.args.core.now a base story c.requires.flight in
    let moves : Moves c.args.worker b e = record { alone = c.conclude-all.ensures.goes; flight = c.conclude-all.ensures.flight; lighter = c.conclude-all.ensures.work_left } in
    let ends = closed_turn a b e d c.in-Item.work c.in-Item.ticket _ free c.in-Item.ensures.0 c.in-Item.ensures.1 moves (IsClosedWork e.base.problem (log_of e) c.in-Item.work) c.conclude-all.result c.close.ensures.closes c.conclude-all.ensures.closed in
    (turn_behind c.args.core.now a base story d c.close.result (subst (λ (x : Result Bool OutOfMemory). TurnEnds c.args.worker a d x) (sym c.close.ensures.same) ends)).flight

pub returns-clause-more : goal.returns-clause-more
returns-clause-more g c =
    let r = c.in_ok-reserve_some.ensures.same in
    let a = c.reserve_some.new.self in
    let b = c.take.new.self in
    let e = c.conclude-all.new.core in
    let d = c.close.new.core in
    let base = ap (λ (x : CoreData). x.base) r in
    let story = ap (λ (x : CoreData). x.story) r in
    let free = nothing_flies c.args.core.now a base story c.requires.flight in
    let moves : Moves c.args.worker b e = record { alone = c.conclude-all.ensures.goes; flight = c.conclude-all.ensures.flight; lighter = c.conclude-all.ensures.work_left } in
    let ends = closed_turn a b e d c.in-Item.work c.in-Item.ticket _ free c.in-Item.ensures.0 c.in-Item.ensures.1 moves (IsClosedWork e.base.problem (log_of e) c.in-Item.work) c.conclude-all.result c.close.ensures.closes c.conclude-all.ensures.closed in
    (turn_behind c.args.core.now a base story d c.close.result (subst (λ (x : Result Bool OutOfMemory). TurnEnds c.args.worker a d x) (sym c.close.ensures.same) ends)).more
