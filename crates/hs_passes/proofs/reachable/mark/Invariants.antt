use Rattle.std.proofs.Common.{◌≡◌, ◌++◌, take, vec_len}
use Rattle.hs_passes.specs.Marking.{marked, newly}
use Rattle.hs_passes.proofs.reachable.mark.Given as goal

abbrev pub invariant-loop-name : goal.invariant-loop-name
invariant-loop-name l = record {
  kept : l.kept.items ≡ marked (take l.name-index l.names) l.initial.kept.items;
  pending : l.pending.items ≡ l.initial.pending.items ++ newly (take l.name-index l.names) l.initial.kept.items;
  long : vec_len l.kept ≡ vec_len l.initial.kept;
}
