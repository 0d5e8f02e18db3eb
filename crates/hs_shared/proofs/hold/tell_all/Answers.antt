use Rattle.std.proofs.Common.{◌≡◌, sym, ◌∙◌, ap, ◌++◌, length, length-append, arith}
use Rattle.hs_history.specs.Story.{Story}
use Rattle.hs_shared.specs.Seats.{SeatData}
use Rattle.hs_shared.specs.Holding.{HasTold}
use Rattle.hs_shared.proofs.Leaving.{has_told_all}
use Rattle.hs_shared.proofs.hold.tell_all.Goals as goal

pub tell_all-requires-clause-grown : goal.tell_all-requires-clause-grown
tell_all-requires-clause-grown c =
    let g = c.requires.grown in
    (g.0, g.1, omega (arith, c.count-now.ensures.count, c.requires.before, ap length g.1, length-append c.args.seat.now.known.seen g.0), g.2)

pub told : (c : goal.After-tell_all) → HasTold c.args.seat.now c.args.guard.now.state.core.story c.tell_all.new.seat
told c =
    let s : SeatData = c.args.seat.now in
    let e = c.tell_all.ensures.seat in
    let known : c.tell_all.new.seat.known ≡ record s.known { seen = c.args.guard.now.state.core.story; own = s.known.own ++ e.0 } =
    e.2 ∙ ap (λ (xs : Story). record s.known { seen = xs; own = s.known.own ++ e.0 }) (sym e.1) in
    (e.0, e.1, λ i. record { turn = c.tell_all.ensures.turn i; known = known i })

pub returns-clause-seat : goal.returns-clause-seat
returns-clause-seat c = told c

pub returns-clause-own : goal.returns-clause-own
returns-clause-own c = let g = c.requires.grown in has_told_all c.args.seat.now c.tell_all.new.seat c.args.guard.now.state.core.story g.0 c.requires.own g.1 g.2 (told c)
