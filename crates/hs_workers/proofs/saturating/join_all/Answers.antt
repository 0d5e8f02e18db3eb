use Rattle.std.proofs.Common.{◌≡◌, sym, ap, subst, ◌∙◌, ◌+◌, ◌∷◌, ◌++◌, [], length, length-append, append_assoc}
use Rattle.hs_scheme.proofs.Lists.{all_given}
use Rattle.hs_turn.specs.Seats.{RestsIn}
use Rattle.hs_shared.specs.Seats.{SeatData}
use Rattle.hs_workers.specs.Working.{IsFirstSeat}
use Rattle.hs_workers.proofs.FirstLemmas.{first_joined, next_of, rested_turn}
use Rattle.hs_workers.proofs.saturating.join_all.Goals as goal

pub into_seat-requires : goal.into_seat-requires
into_seat-requires c =
    let whole = sym (ap (λ xs. c.loop-seat.yielded ++ xs) c.in-Some.ensures.steps.0) ∙ c.loop-seat.invariant.whole in
    let r = next_of (RestsIn c.args.table.now) c.loop-seat.yielded _ c.args.seats.items c.in-Some.seat c.requires.seats whole in
    (r.0, r.1)

pub join-requires-clause-seat : goal.join-requires-clause-seat
join-requires-clause-seat c = c.loop-seat.invariant.first.seat

pub join-requires-clause-other : goal.join-requires-clause-other
join-requires-clause-other c =
    let whole = sym (ap (λ xs. c.loop-seat.yielded ++ xs) c.in-Some.ensures.steps.0) ∙ c.loop-seat.invariant.whole in
    record {
      turn = rested_turn c.args.table.now c.in-Some.seat c.into_seat.result (next_of (RestsIn c.args.table.now) c.loop-seat.yielded _ c.args.seats.items c.in-Some.seat c.requires.seats whole) c.into_seat.ensures.seat;
      free = c.into_seat.ensures.free;
    }

pub join-requires-clause-first : goal.join-requires-clause-first
join-requires-clause-first c = c.loop-seat.invariant.first.number

pub loop-seat-preserved : goal.loop-seat-preserved
loop-seat-preserved c =
    let n = length c.args.seats.items in
    let ys = c.loop-seat.yielded in
    let more : length (ys ++ c.in-Some.seat ∷ []) ≡ length ys + 1 = length-append ys (c.in-Some.seat ∷ []) in
    record {
      first = subst (λ k. IsFirstSeat c.args.table.now n k c.join.new.seat) (sym more) (first_joined c.args.table.now c.loop-seat.first c.join.new.seat c.into_seat.result.known n (length ys) c.loop-seat.invariant.first c.join.ensures.seat);
      base = ap (λ (s : SeatData). s.known.base) c.join.ensures.seat ∙ c.loop-seat.invariant.base;
      whole = append_assoc ys (c.in-Some.seat ∷ []) _ ∙ sym (ap (λ xs. ys ++ xs) c.in-Some.ensures.steps.0) ∙ c.loop-seat.invariant.whole;
    }

pub returns-clause-first : goal.returns-clause-first
returns-clause-first c =
    let n = length c.args.seats.items in
    let all = all_given c.loop-seat.yielded _ c.args.seats.items (sym c.loop-seat.seat-iterator.rest.ok.0 ∙ c.in-None.ensures.steps.0) c.loop-seat.invariant.whole in
    subst (λ xs. IsFirstSeat c.args.table.now n (length xs) c.loop-seat.first) all c.loop-seat.invariant.first
