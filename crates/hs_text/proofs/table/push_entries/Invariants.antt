-- the entries so far stand behind what was there
use Rattle.std.proofs.Common.{take}
use Rattle.std.specs.List.{flat_map}
use Rattle.hs_text.specs.Report.{entry_line}
use Rattle.hs_text.specs.Pieces.{Puts}
use Rattle.hs_text.proofs.table.push_entries.Given as goal

abbrev pub invariant-loop-entry : goal.invariant-loop-entry
invariant-loop-entry l = Puts l.initial.text l.text (flat_map (λ e. entry_line l.problem e.now) (take l.entry-index l.entries))
