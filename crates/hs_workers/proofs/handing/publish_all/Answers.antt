use Rattle.std.proofs.Common.{◌≡◌, refl, sym, ◌∙◌, ap, subst, get_or, Contains, arith, inl, inr}
use Rattle.std.proofs.lemmas.Bool.{cases_lt}
use Rattle.std.proofs.lemmas.List.{get_or_default}
use Rattle.hs_shared.proofs.Seen.{prefix_trans}
use Rattle.hs_types.specs.Interned.{entry_of}
use Rattle.hs_rules.specs.Conclusions.{DeducedData, IsDeduced}
use Rattle.hs_history.specs.Story.{Base}
use Rattle.hs_core.specs.Core.{log_of}
use Rattle.hs_workers.proofs.WorkingLemmas.{in_whole}
use Rattle.hs_workers.proofs.HoldLemmas.{goes_none, goes_trans, still_holds}
use Rattle.hs_workers.proofs.handing.publish_all.Goals as goal

pub publish_one-requires-clause-holds : goal.publish_one-requires-clause-holds
publish_one-requires-clause-holds c = c.loop-deduced.invariant.goes.holds

pub publish_one-requires-clause-ticket : goal.publish_one-requires-clause-ticket
publish_one-requires-clause-ticket c =
    still_holds c.args.seat.now c.loop-deduced.seat c.args.hold.now c.loop-deduced.hold c.loop-deduced.invariant.goes c.loop-deduced.invariant.flight c.args.ticket c.requires.ticket

pub publish_one-requires-clause-begins : goal.publish_one-requires-clause-begins
publish_one-requires-clause-begins c =
    prefix_trans c.args.replica.now.log (log_of c.args.hold.now.core) (log_of c.loop-deduced.hold.core) c.requires.begins c.loop-deduced.invariant.goes.log

pub publish_one-requires-clause-deduced : goal.publish_one-requires-clause-deduced
publish_one-requires-clause-deduced c =
    let ids = c.args.replica.now.ids in
    let log = c.args.replica.now.log in
    subst (λ (b : Base). IsDeduced b.problem ids log c.deduced-item.result) (sym c.loop-deduced.invariant.goes.base)
    (subst (IsDeduced c.args.hold.now.core.base.problem ids log) (sym c.deduced-item.is) (c.requires.found c.loop-deduced.deduced-index c.deduced-item.result c.loop-deduced-test.true))

pub loop-deduced-init : goal.loop-deduced-init
loop-deduced-init c = record {
  goes = goes_none c.args.seat.now c.args.hold.now c.requires.holds;
  exported = c.requires.exported;
  flight = λ t. refl;
  there = λ k d lt. absurd (omega arith);
}

pub loop-deduced-preserved : goal.loop-deduced-preserved
loop-deduced-preserved c =
    let before = c.loop-deduced.invariant in
    let now = c.publish_one.ensures in
    let ids = c.args.replica.now.ids in
    let found = c.args.found.now in
    let n = c.loop-deduced.deduced-index in
    record {
      goes = goes_trans c.args.seat.now c.loop-deduced.seat c.publish_one.new.seat c.args.hold.now c.loop-deduced.hold c.publish_one.new.hold before.goes now.goes;
      exported = now.exported;
      flight = λ t. now.flight t ∙ before.flight t;
      there = λ k d lt. elim (cases_lt k n) [
        | inl below ↦ in_whole (log_of c.loop-deduced.hold.core) (log_of c.publish_one.new.hold.core) (entry_of ids (get_or found k d).row) now.goes.log (before.there k d below)
        | inr above ↦
            let same : n ≡ k = omega arith in
            let at : c.deduced-item.result ≡ get_or found k d = c.deduced-item.is ∙ get_or_default found n c.deduced-item.result d c.loop-deduced-test.true ∙ ap (λ i. get_or found i d) same in
            subst (λ (x : DeducedData). Contains (log_of c.publish_one.new.hold.core) (entry_of ids x.row)) at (c.in_ok-publish_one.ensures.there c.if-not-branch.false)
      ];
    }

pub returns-in_err-publish_one-clause-goes : goal.returns-in_err-publish_one-clause-goes
returns-in_err-publish_one-clause-goes c =
    goes_trans c.args.seat.now c.loop-deduced.seat c.publish_one.new.seat c.args.hold.now c.loop-deduced.hold c.publish_one.new.hold c.loop-deduced.invariant.goes c.publish_one.ensures.goes

pub returns-in_err-publish_one-clause-flight : goal.returns-in_err-publish_one-clause-flight
returns-in_err-publish_one-clause-flight c = λ t. c.publish_one.ensures.flight t ∙ c.loop-deduced.invariant.flight t

pub returns-then-not-branch-clause-goes : goal.returns-then-not-branch-clause-goes
returns-then-not-branch-clause-goes c =
    goes_trans c.args.seat.now c.loop-deduced.seat c.publish_one.new.seat c.args.hold.now c.loop-deduced.hold c.publish_one.new.hold c.loop-deduced.invariant.goes c.publish_one.ensures.goes

pub returns-then-not-branch-clause-flight : goal.returns-then-not-branch-clause-flight
returns-then-not-branch-clause-flight c = λ t. c.publish_one.ensures.flight t ∙ c.loop-deduced.invariant.flight t

pub returns-clause-all : goal.returns-clause-all
returns-clause-all c = λ yes. λ k d lt. c.loop-deduced.invariant.there k d (omega (arith, lt, c.loop-deduced-test.false))
