-- the steps so far stand behind what was there
use Rattle.std.proofs.Common.{take}
use Rattle.std.specs.List.{flat_map}
use Rattle.hs_text.specs.Report.{step_text}
use Rattle.hs_text.specs.Pieces.{Puts}
use Rattle.hs_text.proofs.summary.push_steps.Given as goal

abbrev pub invariant-loop-terminal : goal.invariant-loop-terminal
invariant-loop-terminal l = Puts l.initial.text l.text (flat_map (step_text l.names) (take l.terminal-index l.steps))
