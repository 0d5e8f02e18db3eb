use Rattle.std.proofs.Common.{sym, ap, subst, All}
use Rattle.hs_types.specs.Interned.{entry_of}
use Rattle.hs_rules.specs.Conclusions.{DeducedData}
use Rattle.hs_history.specs.Following.{HasWork}
use Rattle.hs_core.specs.Core.{CoreData, log_of}
use Rattle.hs_core.specs.Waiting.{Waits, IsThereOrWaits}
use Rattle.hs_core.proofs.Moving.{seed_ready}
use Rattle.hs_core.proofs.Selected.{ready_grown, has_seed}
use Rattle.hs_core.proofs.selecting.form.Goals as goal

pub keep_waiting-requires-clause-found : goal.keep_waiting-requires-clause-found
keep_waiting-requires-clause-found c =
    seed_ready c.args.core.now c.at_seed.new.self c.in-Seed.point c.in_ok-found-in-Seed.found.items c.in_ok-found-in-Seed.ensures.kept c.in_ok-found-in-Seed.ensures.found

pub keep_waiting-requires-clause-ready : goal.keep_waiting-requires-clause-ready
keep_waiting-requires-clause-ready c = λ d w.
    let is = c.in_ok-found-in-Seed.ensures.kept in
    ready_grown c.args.core.now c.at_seed.new.self (ap (λ (x : CoreData). x.base) is) (ap (λ (x : CoreData). x.story) is) c.in_ok-found-in-Seed.ensures.grows d (c.requires.ready d w)

pub returns-in_err-found-in-Seed-clause-ready : goal.returns-in_err-found-in-Seed-clause-ready
returns-in_err-found-in-Seed-clause-ready c = λ d w.
    let is = c.in_err-found-in-Seed.ensures.kept in
    ready_grown c.args.core.now c.at_seed.new.self (ap (λ (x : CoreData). x.base) is) (ap (λ (x : CoreData). x.story) is) c.in_err-found-in-Seed.ensures.grows d (c.requires.ready d w)

pub returns-in_ok-keep_waiting-in-Seed-clause-all : goal.returns-in_ok-keep_waiting-in-Seed-clause-all
returns-in_ok-keep_waiting-in-Seed-clause-all c =
    let a = c.args.core.now in
    let m = c.at_seed.new.self in
    let V = Waits c.keep_waiting.new.waiting.found in
    let found = c.in_ok-found-in-Seed.found.items in
    let known = subst (λ (x : CoreData). All (λ (d : DeducedData). IsThereOrWaits m.ids (log_of x) V (entry_of m.ids d.row)) found) c.in_ok-found-in-Seed.ensures.kept c.in_ok-keep_waiting-in-Seed.ensures.known in
    subst (λ w. HasWork a.base.problem (log_of a) w (IsThereOrWaits m.ids (log_of a) V)) (sym c.in-Seed.is)
    (has_seed a.base.problem m.ids (log_of a) V c.in-Seed.point found c.in_ok-found-in-Seed.ensures.found known)
