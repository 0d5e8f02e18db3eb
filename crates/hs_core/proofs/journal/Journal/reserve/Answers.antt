use Rattle.std.proofs.Common.{◌≡◌, refl, sym, ap, subst, ◌∙◌, List, arith}
use Rattle.hs_scheme.proofs.Lists.{on_err}
use Rattle.hs_core.specs.declared.journal.Mark.{Mark}
use Rattle.hs_core.specs.declared.journal.Actor.{Actor}
use Rattle.hs_core.specs.declared.journal.Due.{Due}
use Rattle.hs_core.specs.declared.journal.Journal.TheInside.{Inside}
use Rattle.hs_core.specs.Journal.{JournalData, opened, steps_read, IsJournalOf}
use Rattle.hs_core.proofs.journal.Journal.reserve.Goals as goal

-- room changes none of the lists
module _ (a : Inside) (marks : List Mark) (actors : List Actor) (dues : List Due) (as_marks : marks ≡ a.marks.items) (as_actors : actors ≡ a.actors.items) (as_dues : dues ≡ a.dues.items) where
  kept_still : IsJournalOf a.actors.items a.dues.items a.marks.items a.actor a.due → IsJournalOf actors dues marks a.actor a.due
  kept_still kept =
      subst (λ xs. IsJournalOf actors dues xs a.actor a.due) (sym as_marks)
      (subst (λ xs. IsJournalOf actors xs a.marks.items a.actor a.due) (sym as_dues) (subst (λ xs. IsJournalOf xs a.dues.items a.marks.items a.actor a.due) (sym as_actors) kept))

  value_still : (v : JournalData) → (record { steps = steps_read (opened a.actors.items a.dues.items) a.marks.items; room = a.room }) ≡ v → (record { steps = steps_read (opened actors dues) marks; room = a.room }) ≡ v
  value_still v is = (λ i. record { steps = steps_read (opened (as_actors i) (as_dues i)) (as_marks i); room = a.room }) ∙ is

pub invariant_of-self : goal.invariant_of-self
invariant_of-self c =
    let a = c.self.inside in (
      kept_still a c.reserve.new.self.items a.actors.items a.dues.items c.in_err-reserve.ensures.items refl refl c.self.invariant.0,
      omega (arith, c.self.invariant.1, c.in_err-reserve.ensures.len, c.in_err-reserve.ensures.capacity),
      c.self.invariant.2,
      c.self.invariant.3,
    )

pub returns-in_err-reserve-clause-steps : goal.returns-in_err-reserve-clause-steps
returns-in_err-reserve-clause-steps c =
    let a = c.self.inside in
    ap (λ (v : JournalData). v.steps) (value_still a c.reserve.new.self.items a.actors.items a.dues.items c.in_err-reserve.ensures.items refl refl c.args.self.now c.self.view_is)

pub returns-in_err-reserve-clause-err : goal.returns-in_err-reserve-clause-err
returns-in_err-reserve-clause-err c =
    let a = c.self.inside in
    on_err c.from_residual.result _ (value_still a c.reserve.new.self.items a.actors.items a.dues.items c.in_err-reserve.ensures.items refl refl c.args.self.now c.self.view_is)

pub invariant_of-self-in_err-reserve-2 : goal.invariant_of-self-in_err-reserve-2
invariant_of-self-in_err-reserve-2 c =
    let a = c.self.inside in (
      kept_still a c.reserve.new.self.items c.reserve-2.new.self.items a.dues.items c.in_ok-reserve.ensures.items c.in_err-reserve-2.ensures.items refl c.self.invariant.0,
      omega (arith, c.self.invariant.1, c.in_ok-reserve.ensures.len, c.in_ok-reserve.ensures.capacity),
      omega (arith, c.self.invariant.2, c.in_err-reserve-2.ensures.len, c.in_err-reserve-2.ensures.capacity),
      c.self.invariant.3,
    )

pub returns-in_err-reserve-2-clause-steps : goal.returns-in_err-reserve-2-clause-steps
returns-in_err-reserve-2-clause-steps c =
    let a = c.self.inside in
    ap (λ (v : JournalData). v.steps) (value_still a c.reserve.new.self.items c.reserve-2.new.self.items a.dues.items c.in_ok-reserve.ensures.items c.in_err-reserve-2.ensures.items refl c.args.self.now c.self.view_is)

pub returns-in_err-reserve-2-clause-err : goal.returns-in_err-reserve-2-clause-err
returns-in_err-reserve-2-clause-err c =
    let a = c.self.inside in
    on_err c.from_residual-in_err-reserve-2.result _
    (value_still a c.reserve.new.self.items c.reserve-2.new.self.items a.dues.items c.in_ok-reserve.ensures.items c.in_err-reserve-2.ensures.items refl c.args.self.now c.self.view_is)

pub invariant_of-self-in_err-reserve-3 : goal.invariant_of-self-in_err-reserve-3
invariant_of-self-in_err-reserve-3 c =
    let a = c.self.inside in (
      kept_still a c.reserve.new.self.items c.reserve-2.new.self.items c.reserve-3.new.self.items c.in_ok-reserve.ensures.items c.in_ok-reserve-2.ensures.items c.in_err-reserve-3.ensures.items c.self.invariant.0,
      omega (arith, c.self.invariant.1, c.in_ok-reserve.ensures.len, c.in_ok-reserve.ensures.capacity),
      omega (arith, c.self.invariant.2, c.in_ok-reserve-2.ensures.len, c.in_ok-reserve-2.ensures.capacity),
      omega (arith, c.self.invariant.3, c.in_err-reserve-3.ensures.len, c.in_err-reserve-3.ensures.capacity),
    )

pub returns-in_err-reserve-3-clause-steps : goal.returns-in_err-reserve-3-clause-steps
returns-in_err-reserve-3-clause-steps c =
    let a = c.self.inside in
    ap (λ (v : JournalData). v.steps)
    (value_still a c.reserve.new.self.items c.reserve-2.new.self.items c.reserve-3.new.self.items c.in_ok-reserve.ensures.items c.in_ok-reserve-2.ensures.items c.in_err-reserve-3.ensures.items c.args.self.now c.self.view_is)

pub returns-in_err-reserve-3-clause-err : goal.returns-in_err-reserve-3-clause-err
returns-in_err-reserve-3-clause-err c =
    let a = c.self.inside in
    on_err c.from_residual-in_err-reserve-3.result _
    (value_still a c.reserve.new.self.items c.reserve-2.new.self.items c.reserve-3.new.self.items c.in_ok-reserve.ensures.items c.in_ok-reserve-2.ensures.items c.in_err-reserve-3.ensures.items c.args.self.now c.self.view_is)

pub invariant_of-self-2 : goal.invariant_of-self-2
invariant_of-self-2 c =
    let a = c.self.inside in (
      kept_still a c.reserve.new.self.items c.reserve-2.new.self.items c.reserve-3.new.self.items c.in_ok-reserve.ensures.items c.in_ok-reserve-2.ensures.items c.in_ok-reserve-3.ensures.items c.self.invariant.0,
      omega (arith, c.in_ok-reserve.ensures.len, c.in_ok-reserve.ensures.ok),
      omega (arith, c.in_ok-reserve-2.ensures.len, c.in_ok-reserve-2.ensures.ok),
      omega (arith, c.in_ok-reserve-3.ensures.len, c.in_ok-reserve-3.ensures.ok),
    )

pub returns-clause-steps : goal.returns-clause-steps
returns-clause-steps c =
    let a = c.self.inside in
    ap (λ (v : JournalData). v.steps)
    (value_still a c.reserve.new.self.items c.reserve-2.new.self.items c.reserve-3.new.self.items c.in_ok-reserve.ensures.items c.in_ok-reserve-2.ensures.items c.in_ok-reserve-3.ensures.items c.args.self.now c.self.view_is)
