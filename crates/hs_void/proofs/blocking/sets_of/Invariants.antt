-- the sets for the arguments so far
use Rattle.std.proofs.Common.{◌≡◌, ◌≤◌, length, take, vec_capacity}
use Rattle.hs_void.proofs.Chosen.{ids_for}
use Rattle.hs_void.proofs.blocking.sets_of.Given as goal

abbrev pub invariant-loop-place : goal.invariant-loop-place
invariant-loop-place l = record {
  sets : l.sets.items ≡ ids_for l.own l.none l.given (take l.place l.args);
  long : length l.sets.items ≡ l.place;
  room : length l.args ≤ vec_capacity l.sets;
}
