-- those so far that fit
use Rattle.std.proofs.Common.{take, Contains, ◌↔◌}
use Rattle.hs_table.specs.Types.{TypeTree}
use Rattle.hs_checker.specs.Slots.{FitsSets}
use Rattle.hs_checker.specs.Numbers.{entries_of, trees_of, AreTypes}
use Rattle.hs_checker.proofs.fits.fitting.Given as goal

abbrev pub invariant-loop-ty : goal.invariant-loop-ty
invariant-loop-ty l = record {
  range : AreTypes l.types l.found.items;
  each : (t : TypeTree) → Contains (trees_of l.types l.found.items) t ↔ (Contains (trees_of l.types (take l.ty-index l.all)) t × FitsSets (entries_of l.types l.index) l.args t);
}
