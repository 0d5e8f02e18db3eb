-- the types by the children so far
use Rattle.std.proofs.Common.{◌≤◌}
use Rattle.hs_heads.specs.Sources.{GainsTypes, FromPlace, ByChild}
use Rattle.hs_heads.proofs.terminals.add_children.Given as goal

abbrev pub invariant-loop-place : goal.invariant-loop-place
invariant-loop-place l = record {
  few : l.place ≤ l.rank;
  gains : GainsTypes l.fn.types l.types l.fn.found.keys l.found.keys (FromPlace (ByChild l.q l.to) l.place);
}
