use Rattle.std.proofs.Common.{sym, ◌∙◌, ap}
use Rattle.std.proofs.lemmas.Bool.{false≢true}
use Rattle.hs_core.specs.Core.{CoreData}
use Rattle.hs_canonical.specs.declared.publishing.TheConstants.{WORKER}
use Rattle.hs_canonical.proofs.Opened.{taken, taken_nothing, same_nothing, no_points, none_kept, none_flies}
use Rattle.hs_canonical.proofs.publishing.first_ticket.Goals as goal

pub returns-in-Item-clause-base : goal.returns-in-Item-clause-base
returns-in-Item-clause-base c = ap (λ (x : CoreData). x.base) c.in-Item.ensures.1

pub returns-in-Item-clause-nothing : goal.returns-in-Item-clause-nothing
returns-in-Item-clause-nothing c = taken_nothing c.args.core.now c.take.new.self WORKER c.requires.opened c.in-Item._work c.in-Item.ticket c.in-Item.ensures.1

pub returns-in-Item-clause-taken : goal.returns-in-Item-clause-taken
returns-in-Item-clause-taken c = taken c.args.core.now c.take.new.self WORKER c.requires.opened c.in-Item._work c.in-Item.ticket c.in-Item.ensures.1

pub returns-in-Quiet-clause-base : goal.returns-in-Quiet-clause-base
returns-in-Quiet-clause-base c = ap (λ (x : CoreData). x.base) c.in-Quiet.ensures.2

pub returns-in-Quiet-clause-nothing : goal.returns-in-Quiet-clause-nothing
returns-in-Quiet-clause-nothing c = same_nothing c.args.core.now c.take.new.self WORKER c.requires.opened c.in-Quiet.ensures.2

pub returns-in-Quiet-clause-none : goal.returns-in-Quiet-clause-none
returns-in-Quiet-clause-none c = no_points c.args.core.now c.take.new.self WORKER c.requires.opened c.in-Quiet.ensures.1.pending

pub returns-in-Idle-clause-base : goal.returns-in-Idle-clause-base
returns-in-Idle-clause-base c = ap (λ (x : CoreData). x.base) c.in-Idle.ensures.2

pub returns-in-Idle-clause-nothing : goal.returns-in-Idle-clause-nothing
returns-in-Idle-clause-nothing c = same_nothing c.args.core.now c.take.new.self WORKER c.requires.opened c.in-Idle.ensures.2

pub returns-in-Idle-clause-none : goal.returns-in-Idle-clause-none
returns-in-Idle-clause-none c =
    let idle = c.in-Idle.ensures.1 in
    absurd (none_flies c.args.core.now c.take.new.self WORKER c.requires.opened idle.ticket idle.flown idle.flight)

pub returns-in-Over-clause-base : goal.returns-in-Over-clause-base
returns-in-Over-clause-base c = ap (λ (x : CoreData). x.base) c.in-Over.ensures.2

pub returns-in-Over-clause-nothing : goal.returns-in-Over-clause-nothing
returns-in-Over-clause-nothing c = same_nothing c.args.core.now c.take.new.self WORKER c.requires.opened c.in-Over.ensures.2

pub returns-in-Over-clause-none : goal.returns-in-Over-clause-none
returns-in-Over-clause-none c = absurd (none_kept c.args.core.now c.take.new.self WORKER c.requires.opened c.in-Over.ensures.1)

pub returns-in-Found-clause-base : goal.returns-in-Found-clause-base
returns-in-Found-clause-base c = ap (λ (x : CoreData). x.base) c.in-Found.ensures.1

pub returns-in-Found-clause-nothing : goal.returns-in-Found-clause-nothing
returns-in-Found-clause-nothing c = same_nothing c.args.core.now c.take.new.self WORKER c.requires.opened c.in-Found.ensures.1

pub returns-in-Found-clause-none : goal.returns-in-Found-clause-none
returns-in-Found-clause-none c = absurd (false≢true (sym c.requires.all ∙ c.in-Found.ensures.0.first))
