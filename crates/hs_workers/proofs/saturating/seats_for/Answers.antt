use Rattle.std.proofs.Common.{◌≡◌, sym, ap, subst, ◌∙◌, ◌∷◌, [], length, All, arith, length-append, le_antisymm}
use Rattle.std.proofs.lemmas.List.Elements.{All-push}
use Rattle.hs_shared.specs.Seats.{SeatData}
use Rattle.hs_workers.specs.Working.{IsFirstSeat, RestsSeated}
use Rattle.hs_workers.proofs.FirstLemmas.{first_split, nothing_split, split_rests}
use Rattle.hs_workers.proofs.saturating.seats_for.Goals as goal

pub loop-preserved : goal.loop-preserved
loop-preserved c =
    let table = c.args.table.now in
    let old = c.loop.first in
    let new = c.split.new.seat in
    let before = c.loop.invariant in
    let pushed = c.push_reserved.ensures.items in
    record {
      first = first_split table old new c.loop.counter before.first c.split.ensures.seat;
      base = ap (λ (s : SeatData). s.known.base) c.split.ensures.seat ∙ before.base;
      nothing = nothing_split old new before.nothing c.split.ensures.seat;
      count = omega (arith, ap (λ xs. length xs) pushed, length-append c.loop.seats.items (c.into_rested.result ∷ []), before.count);
      seats = subst (λ xs. All (RestsSeated table c.args.problem.now) xs) (sym pushed)
          (All-push (RestsSeated table c.args.problem.now) c.loop.seats.items c.into_rested.result before.seats
          (split_rests table c.args.problem.now c.args.first.now old c.loop.counter before.first before.nothing before.base c.requires.based c.split.result c.into_rested.result c.split.ensures.new c.into_rested.ensures));
      long = omega (arith, c.push_reserved.ensures.len, before.long);
      room = omega (arith, c.push_reserved.ensures.capacity, before.room);
    }

pub push_reserved-requires : goal.push_reserved-requires
push_reserved-requires c = omega (arith, c.loop.invariant.long, c.loop.invariant.room, c.loop-test.true)

pub split-requires-clause-seat : goal.split-requires-clause-seat
split-requires-clause-seat c = c.loop.invariant.first.seat

pub split-requires-clause-first : goal.split-requires-clause-first
split-requires-clause-first c = c.loop.invariant.first.number

pub split-requires-clause-room : goal.split-requires-clause-room
split-requires-clause-room c = omega (arith, c.loop-test.true, c.requires.few, c.loop.invariant.first.splits_are)

pub returns-clause-first : goal.returns-clause-first
returns-clause-first c =
    let all : c.loop.counter ≡ c.args.workers = le_antisymm c.loop.auto.counter-end c.loop-test.false in
    subst (λ n. IsFirstSeat c.args.table.now n 0 c.loop.first) all c.loop.invariant.first

pub returns-clause-base : goal.returns-clause-base
returns-clause-base c = c.loop.invariant.base

pub returns-clause-count : goal.returns-clause-count
returns-clause-count c = c.loop.invariant.count ∙ le_antisymm c.loop.auto.counter-end c.loop-test.false

pub returns-clause-seats : goal.returns-clause-seats
returns-clause-seats c = c.loop.invariant.seats
