-- the children so far have given their types
use Rattle.std.proofs.Common.{Contains}
use Rattle.hs_table.specs.Types.{TypeTree}
use Rattle.hs_table_plain.specs.Enumeration.{child_types}
use Rattle.hs_checker.specs.Slots.{FitsSets}
use Rattle.hs_checker.specs.Numbers.{entries_of, GainsTypes}
use Rattle.hs_checker.proofs.terminals.add_child_types.Given as goal

abbrev pub invariant-loop-place : goal.invariant-loop-place
invariant-loop-place l = GainsTypes l.fn.types l.types l.fn.found.items l.found.items (λ (t : TypeTree). Contains (child_types l.to l.q l.place) t × FitsSets (entries_of l.fn.types l.index) l.args t)
