-- so many seats are split off
use Rattle.std.proofs.Common.{◌≡◌, ◌≤◌, length, All, vec_len, vec_capacity}
use Rattle.hs_workers.specs.Working.{IsFirstSeat, HasSeenNothing, RestsSeated}
use Rattle.hs_workers.proofs.saturating.seats_for.Given as goal

abbrev pub invariant-loop : goal.invariant-loop
invariant-loop l = record {
  first : IsFirstSeat l.table l.counter 0 l.first;
  base : l.first.known.base ≡ l.fn.first.known.base;
  nothing : HasSeenNothing l.first;
  count : length l.seats.items ≡ l.counter;
  seats : All (RestsSeated l.table l.problem) l.seats.items;
  long : vec_len l.seats ≡ l.counter;
  room : l.workers ≤ vec_capacity l.seats;
}
