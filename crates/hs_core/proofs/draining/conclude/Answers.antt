use Rattle.std.proofs.Common.{sym, ap, subst, ◌∙◌}
use Rattle.hs_history.specs.CoreStep.{IsClosedWork}
use Rattle.hs_core.specs.Core.{CoreData, log_of}
use Rattle.hs_core.proofs.Moving.{moves_same, moves_trans, seed_ready, seed_closed_after, answer_more}
use Rattle.hs_core.proofs.draining.conclude.Goals as goal

pub returns-in_err-found-in-Seed-clause-goes : goal.returns-in_err-found-in-Seed-clause-goes
returns-in_err-found-in-Seed-clause-goes c =
    let is = c.in_err-found-in-Seed.ensures.kept in
    (moves_same {me = c.args.worker} c.args.core.now c.at_seed.new.self (ap (λ (x : CoreData). x.base) is) (ap (λ (x : CoreData). x.story) is)).alone

pub returns-in_err-found-in-Seed-clause-flight : goal.returns-in_err-found-in-Seed-clause-flight
returns-in_err-found-in-Seed-clause-flight c =
    let is = c.in_err-found-in-Seed.ensures.kept in
    (moves_same {me = c.args.worker} c.args.core.now c.at_seed.new.self (ap (λ (x : CoreData). x.base) is) (ap (λ (x : CoreData). x.story) is)).flight

pub returns-in_err-found-in-Seed-clause-work_left : goal.returns-in_err-found-in-Seed-clause-work_left
returns-in_err-found-in-Seed-clause-work_left c =
    let is = c.in_err-found-in-Seed.ensures.kept in
    (moves_same {me = c.args.worker} c.args.core.now c.at_seed.new.self (ap (λ (x : CoreData). x.base) is) (ap (λ (x : CoreData). x.story) is)).lighter

pub publish_all-requires-clause-holds : goal.publish_all-requires-clause-holds
publish_all-requires-clause-holds c =
    let is = c.in_ok-found-in-Seed.ensures.kept in
    (c.requires.holds.0, (moves_same {me = c.args.worker} c.args.core.now c.at_seed.new.self (ap (λ (x : CoreData). x.base) is) (ap (λ (x : CoreData). x.story) is)).flight c.args.ticket ∙ c.requires.holds.1)

pub publish_all-requires-clause-ready : goal.publish_all-requires-clause-ready
publish_all-requires-clause-ready c = seed_ready c.args.core.now c.at_seed.new.self c.in-Seed.point c.in_ok-found-in-Seed.found.items c.in_ok-found-in-Seed.ensures.kept c.in_ok-found-in-Seed.ensures.found

pub returns-in_ok-found-in-Seed-clause-goes : goal.returns-in_ok-found-in-Seed-clause-goes
returns-in_ok-found-in-Seed-clause-goes c =
    let is = c.in_ok-found-in-Seed.ensures.kept in
    (moves_trans c.args.core.now c.at_seed.new.self c.publish_all.new.core (moves_same {me = c.args.worker} c.args.core.now c.at_seed.new.self (ap (λ (x : CoreData). x.base) is) (ap (λ (x : CoreData). x.story) is))
    (record { alone = c.publish_all.ensures.goes; flight = c.publish_all.ensures.flight; lighter = c.publish_all.ensures.work_left })).alone

pub returns-in_ok-found-in-Seed-clause-flight : goal.returns-in_ok-found-in-Seed-clause-flight
returns-in_ok-found-in-Seed-clause-flight c =
    let is = c.in_ok-found-in-Seed.ensures.kept in
    (moves_trans c.args.core.now c.at_seed.new.self c.publish_all.new.core (moves_same {me = c.args.worker} c.args.core.now c.at_seed.new.self (ap (λ (x : CoreData). x.base) is) (ap (λ (x : CoreData). x.story) is))
    (record { alone = c.publish_all.ensures.goes; flight = c.publish_all.ensures.flight; lighter = c.publish_all.ensures.work_left })).flight

pub returns-in_ok-found-in-Seed-clause-work_left : goal.returns-in_ok-found-in-Seed-clause-work_left
returns-in_ok-found-in-Seed-clause-work_left c =
    let is = c.in_ok-found-in-Seed.ensures.kept in
    (moves_trans c.args.core.now c.at_seed.new.self c.publish_all.new.core (moves_same {me = c.args.worker} c.args.core.now c.at_seed.new.self (ap (λ (x : CoreData). x.base) is) (ap (λ (x : CoreData). x.story) is))
    (record { alone = c.publish_all.ensures.goes; flight = c.publish_all.ensures.flight; lighter = c.publish_all.ensures.work_left })).lighter

pub returns-in_ok-found-in-Seed-clause-closed : goal.returns-in_ok-found-in-Seed-clause-closed
returns-in_ok-found-in-Seed-clause-closed c =
    answer_more _ _ _ _ c.publish_all.result
    (λ there. subst (λ w. IsClosedWork c.publish_all.new.core.base.problem (log_of c.publish_all.new.core) w) (sym c.in-Seed.is) (seed_closed_after c.args.core.now c.at_seed.new.self c.publish_all.new.core c.in-Seed.point c.in_ok-found-in-Seed.found.items c.in_ok-found-in-Seed.ensures.kept c.publish_all.ensures.goes.base c.publish_all.ensures.ids c.in_ok-found-in-Seed.ensures.found there))
    c.publish_all.ensures.all
