-- the numbers so far are those of the first nodes
use Rattle.std.proofs.Common.{◌≤◌, vec_capacity}
use Rattle.hs_sorts.specs.Finding.{AreArities}
use Rattle.hs_sorts.proofs.finding.arities.Given as goal

abbrev pub invariant-loop-place : goal.invariant-loop-place
invariant-loop-place l = record {
  arities : AreArities l.measures l.start l.place l.arities.items;
  room : l.count ≤ vec_capacity l.arities;
}
