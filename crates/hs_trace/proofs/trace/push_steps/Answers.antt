use Rattle.std.proofs.Common.{ap, ◌∙◌, ◌++◌}
use Rattle.std.specs.List.{flat_map}
use Rattle.std.proofs.lemmas.List.{take_all}
use Rattle.hs_trace.specs.TraceText.{reduction_line}
use Rattle.hs_trace.proofs.trace.push_steps.Goals as goal

pub returns : goal.returns
returns c =
    c.loop-step.invariant
    ∙ ap (λ steps. c.args.text.now.items ++ flat_map (reduction_line c.args.names.now c.args.lines.now) steps) (take_all _ c.args.steps.now c.loop-step-test.false)
