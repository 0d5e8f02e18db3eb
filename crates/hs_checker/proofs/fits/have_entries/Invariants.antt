-- those so far have entries
use Rattle.std.proofs.Common.{take}
use Rattle.hs_types.specs.Interned.{set_of_id}
use Rattle.hs_checker.specs.Slots.{HasTypesAt}
use Rattle.hs_checker.specs.Numbers.{entries_of}
use Rattle.hs_checker.proofs.fits.have_entries.Given as goal

abbrev pub invariant-loop-ty : goal.invariant-loop-ty
invariant-loop-ty l = HasTypesAt (entries_of l.types l.index) l.arg (take l.ty-index (set_of_id l.types l.fn.set))
