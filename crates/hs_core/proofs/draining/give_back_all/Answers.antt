use Rattle.std.proofs.Common.{◌≡◌, sym, ap, subst, ◌∙◌, None, arith, inl, inr}
use Rattle.std.proofs.lemmas.Bool.{cases_lt}
use Rattle.hs_core.specs.Core.{CoreData, state_of}
use Rattle.hs_core.proofs.Moving.{goes_back_step, goes_back_none, goes_back_same, given_free, given_other, none_unless}
use Rattle.hs_core.proofs.draining.give_back_all.Goals as goal
use Rattle.hs_core.proofs.draining.give_back_all.Goals.{in-Some, in_default}

pub give_back-requires : goal.give_back-requires
give_back-requires c = (c.in-Some.flight.work, sym c.flight.ensures ∙ c.in-Some.is)

pub loop-ticket-init : goal.loop-ticket-init
loop-ticket-init c = record {
  goes = goes_back_none c.args.core.now;
  free = λ t lt. absurd (omega arith);
  beyond = c.tickets_bound-ticket-end.ensures;
}

pub loop-ticket-preserved : goal.loop-ticket-preserved
loop-ticket-preserved c =
    let a = c.loop-ticket.core in
    let b = c.match-flight.core in
    let n = c.loop-ticket.ticket in
    elim c.match-flight.branch [
      | in-Some w ↦
          let is = w.core-is ∙ w.give_back.ensures in
          record {
            goes = goes_back_step c.args.core.now a b w.in-Some.flight.worker n a.spare c.loop-ticket.invariant.goes is;
            free = λ t lt. elim (cases_lt t n) [
              | inl below ↦ given_other a b w.in-Some.flight.worker n a.spare is t (c.loop-ticket.invariant.free t below)
              | inr above ↦ let same : n ≡ t = omega arith in subst (λ m. (state_of b).flight m ≡ None) same (given_free a b w.in-Some.flight.worker n a.spare is)
            ];
            beyond = λ t le. given_other a b w.in-Some.flight.worker n a.spare is t (c.loop-ticket.invariant.beyond t le);
          }
      | in_default w ↦ record {
        goes = goes_back_same c.args.core.now a b c.loop-ticket.invariant.goes w.core-is;
        free = λ t lt. elim (cases_lt t n) [
          | inl below ↦ ap (λ (x : CoreData). (state_of x).flight t) w.core-is ∙ c.loop-ticket.invariant.free t below
          | inr above ↦
              let same : n ≡ t = omega arith in
              subst (λ m. (state_of b).flight m ≡ None) same (ap (λ (x : CoreData). (state_of x).flight n) w.core-is ∙ sym c.flight.ensures ∙ none_unless c.flight.result w.in_default.not-Some)
        ];
        beyond = λ t le. ap (λ (x : CoreData). (state_of x).flight t) w.core-is ∙ c.loop-ticket.invariant.beyond t le;
      }
    ]

pub returns-clause-base : goal.returns-clause-base
returns-clause-base c = c.loop-ticket.invariant.goes.base

pub returns-clause-story : goal.returns-clause-story
returns-clause-story c = (c.loop-ticket.invariant.goes.more, c.loop-ticket.invariant.goes.story, c.loop-ticket.invariant.goes.gives)

pub returns-clause-flight : goal.returns-clause-flight
returns-clause-flight c = λ t. elim (cases_lt t c.loop-ticket.ticket) [
  | inl below ↦ c.loop-ticket.invariant.free t below
  | inr above ↦ c.loop-ticket.invariant.beyond t (omega (arith, c.loop-ticket-test.false))
]
