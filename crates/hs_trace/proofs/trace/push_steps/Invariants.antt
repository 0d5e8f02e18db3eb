-- the lines so far stand behind what was there
use Rattle.std.proofs.Common.{◌≡◌, ◌++◌, take}
use Rattle.std.specs.List.{flat_map}
use Rattle.hs_trace.specs.TraceText.{reduction_line}
use Rattle.hs_trace.proofs.trace.push_steps.Given as goal

abbrev pub invariant-loop-step : goal.invariant-loop-step
invariant-loop-step l = l.text.items ≡ l.initial.text.items ++ flat_map (reduction_line l.names l.lines) (take l.step-index l.steps)
