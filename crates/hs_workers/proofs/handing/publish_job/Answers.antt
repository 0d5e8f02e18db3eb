use Rattle.std.proofs.Common.{sym, subst, Option, Vec, Global, All}
use Rattle.std.specs.Option.{IfSome}
use Rattle.std.proofs.lemmas.Bool.{false≢true}
use Rattle.hs_shared.proofs.Seen.{prefix_trans}
use Rattle.hs_rules.specs.Conclusions.{IsDeduced}
use Rattle.hs_rules.specs.declared.deduced.Deduced.{Deduced}
use Rattle.hs_history.specs.Story.{Base}
use Rattle.hs_history.specs.CoreStep.{IsClosedWork}
use Rattle.hs_core.specs.Core.{log_of}
use Rattle.hs_workers.specs.Forming.{HasFound, AreFormed}
use Rattle.hs_workers.proofs.WorkingLemmas.{formed_closed}
use Rattle.hs_workers.proofs.handing.publish_job.Goals as goal

pub returns-in-Ok-clause-closed : goal.returns-in-Ok-clause-closed
returns-in-Ok-clause-closed c = λ yes.
    let old = c.args.hold.now.core in
    let new = c.publish_all.new.hold.core in
    let goes = c.publish_all.ensures.goes in
    let p = old.base.problem in
    let ids = c.args.replica.now.ids in
    let log = c.args.replica.now.log in
    let work = c.args.job.now.work in
    let found = c.in-Some.found.items in
    let formed : AreFormed p ids log work found =
    subst (λ (o : Option (Vec Deduced Global)). IfSome o (λ v. AreFormed p ids log work v.items)) c.in-Some.is c.requires.formed in
    let has : HasFound ids found (log_of new) = subst (λ xs. HasFound ids xs (log_of new)) c.as_slice.ensures.value (c.in-Ok.ensures.all yes) in
    subst (λ (b : Base). IsClosedWork b.problem (log_of new) work) (sym goes.base)
    (formed_closed p ids log (log_of new) work found (prefix_trans log (log_of old) (log_of new) c.requires.begins goes.log) formed has)

pub publish_all-requires-clause-holds : goal.publish_all-requires-clause-holds
publish_all-requires-clause-holds c = c.requires.holds

pub publish_all-requires-clause-ticket : goal.publish_all-requires-clause-ticket
publish_all-requires-clause-ticket c = c.requires.ticket

pub publish_all-requires-clause-begins : goal.publish_all-requires-clause-begins
publish_all-requires-clause-begins c = c.requires.begins

pub publish_all-requires-clause-found : goal.publish_all-requires-clause-found
publish_all-requires-clause-found c =
    let p = c.args.hold.now.core.base.problem in
    let ids = c.args.replica.now.ids in
    let log = c.args.replica.now.log in
    let formed : AreFormed p ids log c.args.job.now.work c.in-Some.found.items =
    subst (λ (o : Option (Vec Deduced Global)). IfSome o (λ v. AreFormed p ids log c.args.job.now.work v.items)) c.in-Some.is c.requires.formed in
    subst (λ xs. All (IsDeduced p ids log) xs) (sym c.as_slice.ensures.value) formed.deduced

pub returns-in-Ok-clause-goes : goal.returns-in-Ok-clause-goes
returns-in-Ok-clause-goes c = c.publish_all.ensures.goes

pub returns-in-Ok-clause-flight : goal.returns-in-Ok-clause-flight
returns-in-Ok-clause-flight c = c.publish_all.ensures.flight

pub returns-in-Err-clause-goes : goal.returns-in-Err-clause-goes
returns-in-Err-clause-goes c = c.publish_all.ensures.goes

pub returns-in-Err-clause-flight : goal.returns-in-Err-clause-flight
returns-in-Err-clause-flight c = c.publish_all.ensures.flight

pub returns-in-Err-clause-closed : goal.returns-in-Err-clause-closed
returns-in-Err-clause-closed c = λ yes. absurd (false≢true yes)
