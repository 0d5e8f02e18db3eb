use Rattle.std.proofs.Common.{refl, sym, subst, ◌∙◌, ◌+◌, arith, inl, inr}
use Rattle.std.proofs.lemmas.Bool.{cases_lt}
use Rattle.hs_core.specs.Core.{CoreData}
use Rattle.hs_core.proofs.Moving.{none_unless}
use Rattle.hs_core.proofs.Selected.{EndedTo, end_first, end_step, end_none, flown_by, flown_can}
use Rattle.hs_core.proofs.selecting.end_all.Goals as goal
use Rattle.hs_core.proofs.selecting.end_all.Goals.{in-Some, in_default}

pub close-all-requires-clause-holds : goal.close-all-requires-clause-holds
close-all-requires-clause-holds c =
    let f = c.in-Some._flight in
    (f.work, flown_by c.args.worker c.args.closed c.args.core.now c.loop-ticket.core c.loop-ticket.ticket f c.requires.own c.loop-ticket.invariant.ended (sym c.flight.ensures ∙ c.in-Some.is))

pub close-all-requires-clause-closed : goal.close-all-requires-clause-closed
close-all-requires-clause-closed c =
    flown_can c.args.worker c.args.closed c.args.core.now c.loop-ticket.core c.loop-ticket.ticket c.in-Some._flight c.requires.own c.requires.closed c.loop-ticket.invariant.ended (sym c.flight.ensures ∙ c.in-Some.is)

pub loop-ticket-init : goal.loop-ticket-init
loop-ticket-init c = record {
  ended = end_first c.args.worker c.args.closed c.args.core.now;
  beyond = c.tickets_bound-ticket-end.ensures;
}

pub loop-ticket-preserved : goal.loop-ticket-preserved
loop-ticket-preserved c =
    let a = c.args.core.now in
    let l = c.loop-ticket.core in
    let b = c.match-flight.core in
    let n = c.loop-ticket.ticket in
    record {
      ended = elim c.match-flight.branch [
        | in-Some w ↦ subst (λ (x : CoreData). EndedTo c.args.worker c.args.closed a x (n + 1)) (sym w.core-is) (end_step c.args.worker c.args.closed a l w.close-all.new.core n (n + 1) c.loop-ticket.invariant.ended refl w.close-all.ensures.closes)
        | in_default w ↦ end_none c.args.worker c.args.closed a l b n (n + 1) c.loop-ticket.invariant.ended refl (sym c.flight.ensures ∙ none_unless c.flight.result w.in_default.not-Some) w.core-is
      ];
      beyond = c.loop-ticket.invariant.beyond;
    }

pub returns-clause-goes : goal.returns-clause-goes
returns-clause-goes c = c.loop-ticket.invariant.ended.goes

pub returns-clause-flight : goal.returns-clause-flight
returns-clause-flight c = λ t. elim (cases_lt t c.loop-ticket.ticket) [
  | inl below ↦ c.loop-ticket.invariant.ended.free t below
  | inr above ↦ c.loop-ticket.invariant.ended.later t above ∙ c.loop-ticket.invariant.beyond t (omega (arith, above, c.loop-ticket-test.false))
]

pub returns-clause-left : goal.returns-clause-left
returns-clause-left c = c.loop-ticket.invariant.ended.left
