-- what follows at the points so far is found or in the log
use Rattle.std.proofs.Common.{◌≡◌}
use Rattle.hs_types.specs.Interned.{Grows}
use Rattle.hs_workers.proofs.FormingLemmas.{AreAllBefore}
use Rattle.hs_workers.proofs.forming.form_at.Given as goal

abbrev pub invariant-loop-point : goal.invariant-loop-point
invariant-loop-point l = record {
  log : l.replica.log ≡ l.fn.replica.log;
  grows : Grows l.fn.replica.ids l.replica.ids;
  so_far : AreAllBefore l.problem l.replica.ids l.replica.log l.points l.point-index l.place l.found.items;
}
