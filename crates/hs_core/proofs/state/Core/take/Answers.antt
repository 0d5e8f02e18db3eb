use Rattle.std.proofs.Common.{◌≡◌, refl, sym, subst, ◌∙◌, [], ℕ, drop}
use Rattle.hs_core.specs.declared.answers.Taken.{Taken}
use Rattle.hs_core.specs.Answers.{IsFound, Takes}
use Rattle.hs_core.proofs.Slots.{none_there, some_there, not_some}
use Rattle.hs_core.proofs.Stepping.{base_of, fields_of, seen, goes_on, seen_kept, some_kept}
use Rattle.hs_core.proofs.Passing.{first_of, none_of}
use Rattle.hs_core.proofs.state.Core.take.Goals as goal
use Rattle.hs_core.proofs.state.Core.take.Goals.{then-count-eq0, else-count-eq0}

pub returns-in-Some : goal.returns-in-Some
returns-in-Some c = ((c.found.ensures c.in-Some.place).0 c.in-Some.is, refl)

pub returns-then-is_some : goal.returns-then-is_some
returns-then-is_some c =
    let a = c.self.inside in
    let never = λ (place : ℕ) (found : IsFound c.args.self.now place). c.in_default.not-Some place ((c.found.ensures place).1 found) in (
      goes_on (base_of a) (fields_of a) c.self.invariant.0 a.spare c.args.self.now c.self.view_is never,
      some_kept (base_of a) (fields_of a) c.self.invariant.0 a.spare c.args.self.now c.self.view_is (sym c.is_some.ensures ∙ c.if-is_some.true),
      refl,
    )

pub returns-in_default-front : goal.returns-in_default-front
returns-in_default-front c =
    let a = c.self.inside in
    let v = c.args.self.now in
    let never = λ (place : ℕ) (found : IsFound v place). c.in_default.not-Some place ((c.found.ensures place).1 found) in
    let shown = seen (base_of a) (fields_of a) c.self.invariant.0 a.spare v c.self.view_is in
    let on = goes_on (base_of a) (fields_of a) c.self.invariant.0 a.spare v c.self.view_is never in
    let past = not_some a.past (sym c.is_some.ensures ∙ c.if-is_some.false) in
    let kept = seen_kept (base_of a) (fields_of a) c.self.invariant.0 a.spare v c.self.view_is past in
    let empty : a.pending.works ≡ [] = none_of a.pending.works (sym c.in_default-front.ensures) in
    elim c.if-count-eq0.branch [
      | then-count-eq0 w ↦
          subst (λ (r : Taken). Takes v c.args.worker r v) (sym w.result-is)
          (on, record { pending = shown.pending ∙ empty; flight = λ t. shown.flight t ∙ none_there a.tickets.slots t (sym c.count.ensures.count ∙ w.if-count-eq0.true); kept = kept }, refl)
      | else-count-eq0 w ↦
          let there = some_there a.tickets.slots (λ none. w.if-count-eq0.false (c.count.ensures.count ∙ none)) in
          subst (λ (r : Taken). Takes v c.args.worker r v) (sym w.result-is)
          (on, record { none_kept = kept; pending = shown.pending ∙ empty; ticket = there.0; flown = there.1; flight = shown.flight there.0 ∙ there.2 }, refl)
    ]

pub take_first-ticket-requires-clause-none_kept : goal.take_first-ticket-requires-clause-none_kept
take_first-ticket-requires-clause-none_kept c =
    let a = c.self.inside in
    seen_kept (base_of a) (fields_of a) c.self.invariant.0 a.spare c.args.self.now c.self.view_is (not_some a.past (sym c.is_some.ensures ∙ c.if-is_some.false))

pub take_first-ticket-requires-clause-goes_on : goal.take_first-ticket-requires-clause-goes_on
take_first-ticket-requires-clause-goes_on c =
    let a = c.self.inside in
    goes_on (base_of a) (fields_of a) c.self.invariant.0 a.spare c.args.self.now c.self.view_is (λ place found. c.in_default.not-Some place ((c.found.ensures place).1 found))

pub take_first-ticket-requires-clause-first : goal.take_first-ticket-requires-clause-first
take_first-ticket-requires-clause-first c =
    let a = c.self.inside in
    (drop 1 a.pending.works, (seen (base_of a) (fields_of a) c.self.invariant.0 a.spare c.args.self.now c.self.view_is).pending ∙ first_of a.pending.works _ (sym c.in-Some-front.ensures))

pub take_first-ticket-requires-clause-spare : goal.take_first-ticket-requires-clause-spare
take_first-ticket-requires-clause-spare c = c.requires

pub returns : goal.returns
returns c = (c.take_first-ticket.ensures.can, c.take_first-ticket.ensures.stepped)
