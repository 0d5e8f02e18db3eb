use Rattle.std.proofs.Common.{sym, ◌∙◌, subst, ℕ, Bool, Result}
use Rattle.hs_scheme.specs.declared.memory.OutOfMemory.{OutOfMemory}
use Rattle.hs_history.specs.CoreStep.{IsClosedWork, CanFinish}
use Rattle.hs_core.specs.Core.{state_of, log_of}
use Rattle.hs_core.proofs.Moving.{alone_trans}
use Rattle.hs_core.proofs.Turning.{may_close}
use Rattle.hs_core.proofs.Flying.{flying_work, put_same, closes_goes, closes_flight, closes_said, Said}
use Rattle.hs_core.proofs.draining.do_work.Goals as goal

pub conclude-all-requires-clause-holds : goal.conclude-all-requires-clause-holds
conclude-all-requires-clause-holds c = (c.args.work, c.requires.flies)

pub conclude-all-requires-clause-work : goal.conclude-all-requires-clause-work
conclude-all-requires-clause-work c = flying_work c.args.core.now c.know_core.ensures c.args.ticket c.args.worker c.args.work c.requires.flies

pub close-requires-clause-holds : goal.close-requires-clause-holds
close-requires-clause-holds c = (c.args.work, c.conclude-all.ensures.flight c.args.ticket ∙ c.requires.flies)

pub close-requires-clause-closed : goal.close-requires-clause-closed
close-requires-clause-closed c =
    let e = c.conclude-all.new.core in
    may_close (IsClosedWork e.base.problem (log_of e) c.args.work) _ (CanFinish e.base (state_of e) c.args.worker c.args.ticket) c.conclude-all.result
    (λ closed. record { work = c.args.work; holds = c.conclude-all.ensures.flight c.args.ticket ∙ c.requires.flies; closed = closed }) c.conclude-all.ensures.closed

pub returns-clause-goes : goal.returns-clause-goes
returns-clause-goes c =
    let a = c.args.core.now in
    let e = c.conclude-all.new.core in
    let d = c.close.new.core in
    alone_trans a e d c.conclude-all.ensures.goes (closes_goes e d c.args.worker c.args.ticket c.conclude-all.result c.close.ensures.closes)

pub returns-clause-flight : goal.returns-clause-flight
returns-clause-flight c = λ (t : ℕ).
    let a = c.args.core.now in
    let e = c.conclude-all.new.core in
    let d = c.close.new.core in
    closes_flight e d c.args.worker c.args.ticket c.conclude-all.result c.close.ensures.closes t
    ∙ put_same c.args.ticket _ (state_of a).flight (state_of e).flight c.conclude-all.ensures.flight t

pub returns-clause-closed : goal.returns-clause-closed
returns-clause-closed c =
    let e = c.conclude-all.new.core in
    let d = c.close.new.core in
    subst (λ (x : Result Bool OutOfMemory). Said d c.args.work x) (sym c.close.ensures.same)
    (closes_said e d c.args.worker c.args.ticket c.args.work c.conclude-all.result c.close.ensures.closes c.conclude-all.ensures.closed)
