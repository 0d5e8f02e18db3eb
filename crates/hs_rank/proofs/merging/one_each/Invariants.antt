-- of the places so far one is left for each entry
use Rattle.std.proofs.Common.{◌≤◌, ◌<◌, length}
use Rattle.std.specs.Vec.{vec_len, vec_capacity}
use Rattle.hs_rank.proofs.OneEach.{HasOneEach}
use Rattle.hs_rank.proofs.merging.one_each.Given as goal

abbrev pub invariant-loop-number : goal.invariant-loop-number
invariant-loop-number l = record {
  each : HasOneEach l.interner l.found l.sorted l.number l.kept.items l.last;
  few : vec_len l.kept < l.number;
  room : length l.sorted ≤ vec_capacity l.kept;
}
