-- so many seats are joined
use Rattle.std.proofs.Common.{◌≡◌, length, ◌++◌}
use Rattle.hs_workers.specs.Working.{IsFirstSeat}
use Rattle.hs_workers.proofs.saturating.join_all.Given as goal

abbrev pub invariant-loop-seat : goal.invariant-loop-seat
invariant-loop-seat l = record {
  first : IsFirstSeat l.table (length l.fn.seats.items) (length l.yielded) l.first;
  base : l.first.known.base ≡ l.fn.first.known.base;
  whole : l.yielded ++ l.seat-iterator.rest.items ≡ l.fn.seats.items;
}
