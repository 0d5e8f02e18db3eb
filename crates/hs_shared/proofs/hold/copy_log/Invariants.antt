-- the entries up to this place
use Rattle.std.proofs.Common.{◌≡◌, ◌≤◌, length, take}
use mathlib.Core.List.{IsPrefix}
use Rattle.hs_types.specs.Interned.{Grows}
use Rattle.hs_shared.proofs.hold.copy_log.Given as goal

abbrev pub invariant-loop-place : goal.invariant-loop-place
invariant-loop-place l = record {
  log : l.to.log ≡ take l.place l.from.log;
  within : l.place ≤ length l.from.log;
  more : IsPrefix l.fn.to.log l.to.log;
  spare : l.to.spare ≡ l.fn.to.spare;
  indexed : l.to.indexed ≡ l.fn.to.indexed;
  grows : Grows l.fn.to.ids l.to.ids;
}
