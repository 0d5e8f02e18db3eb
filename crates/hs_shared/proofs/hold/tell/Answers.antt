use Rattle.std.proofs.Common.{◌≡◌, refl, sym, ◌∙◌, ap, [], ◌∷◌, ◌++◌, length, inl, inr, length-append, arith}
use Rattle.std.proofs.lemmas.List.{append-nil}
use Rattle.hs_history.specs.Story.{CoreStep, Story}
use Rattle.hs_shared.specs.Seats.{SeatData}
use Rattle.hs_shared.specs.Holding.{HasTold}
use Rattle.hs_shared.proofs.Leaving.{has_told}
use Rattle.hs_shared.proofs.hold.tell.Goals as goal

pub tell-requires-clause-grown : goal.tell-requires-clause-grown
tell-requires-clause-grown c = elim c.requires.once [
  | inl same ↦ absurd (c.if-now-before.false (c.count-now.ensures.count ∙ ap length same ∙ sym c.requires.before))
  | inr (action, is) ↦ (record { worker = c.args.seat.now.known.number; action = action }, is, refl)
]

pub returns-then-now-before-clause-seat : goal.returns-then-now-before-clause-seat
returns-then-now-before-clause-seat c =
    let s : SeatData = c.args.seat.now in
    let story : Story = c.args.guard.now.state.core.story in
    let same : story ≡ s.known.seen = elim c.requires.once [
      | inl is ↦ is
      | inr (action, is) ↦
          let step : CoreStep = record { worker = s.known.number; action = action } in
          absurd (omega (arith, c.if-now-before.true, c.count-now.ensures.count, c.requires.before, ap length is, length-append s.known.seen (step ∷ [])))
    ] in (
      [],
      same ∙ sym (append-nil s.known.seen),
      ap (λ (xs : Story). record { turn = s.turn; known = record s.known { seen = xs; own = s.known.own } }) (sym same)
          ∙ ap (λ (xs : Story). record { turn = s.turn; known = record s.known { seen = story; own = xs } }) (sym (append-nil s.known.own)),
    )

pub told : (c : goal.After-tell) → HasTold c.args.seat.now c.args.guard.now.state.core.story c.tell.new.seat
told c =
    let s : SeatData = c.args.seat.now in
    let e = c.tell.ensures.seat in
    let known : c.tell.new.seat.known ≡ record s.known { seen = c.args.guard.now.state.core.story; own = s.known.own ++ e.0 ∷ [] } =
    e.2 ∙ ap (λ (xs : Story). record s.known { seen = xs; own = s.known.own ++ e.0 ∷ [] }) (sym e.1) in
    (e.0 ∷ [], e.1, λ i. record { turn = c.tell.ensures.turn i; known = known i })

pub returns-clause-seat : goal.returns-clause-seat
returns-clause-seat c = told c

pub returns-clause-own : goal.returns-clause-own
returns-clause-own c = has_told c.args.seat.now c.tell.new.seat c.args.guard.now.state.core.story c.requires.own c.requires.once (told c)
