-- the states so far have given their types
use Rattle.std.proofs.Common.{[], Contains}
use Rattle.hs_table.specs.Types.{TypeTree}
use Rattle.hs_table_plain.specs.Enumeration.{terminal_types}
use Rattle.hs_checker.specs.Slots.{FitsSets}
use Rattle.hs_checker.specs.Numbers.{entries_of, GainsTypes}
use Rattle.hs_checker.proofs.terminals.terminal_instances.Given as goal

abbrev pub invariant-loop-q : goal.invariant-loop-q
invariant-loop-q l = GainsTypes l.fn.types l.types [] l.found.items (λ (t : TypeTree). Contains (terminal_types l.problem l.terminal l.q) t × FitsSets (entries_of l.fn.types l.index) l.args t)
