-- those before the present one
use Rattle.std.proofs.Common.{◌≡◌, ◌≤◌}
use Rattle.hs_passes.specs.Needing.{kept}
use Rattle.hs_passes.specs.Selection.{place}
use Rattle.hs_passes.proofs.keeping.place_of.Given as goal

abbrev pub invariant-loop-other : goal.invariant-loop-other
invariant-loop-other l = record {
  is : l.place ≡ place (kept l.parameters l.flags l.rule) l.other;
  few : l.place ≤ l.other;
}
