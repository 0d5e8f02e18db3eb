-- the sorts so far are those of the first nodes
use Rattle.std.proofs.Common.{◌≤◌, vec_capacity}
use Rattle.hs_sorts.specs.Finding.{AreSorts}
use Rattle.hs_sorts.proofs.finding.read_sorts.Given as goal

abbrev pub invariant-loop-node : goal.invariant-loop-node
invariant-loop-node l = record {
  sorts : AreSorts l.store l.node l.sorts.items;
  room : l.count ≤ vec_capacity l.sorts;
}
