use Rattle.std.proofs.Common.{ap, get_or, decimal}
use Rattle.std.specs.List.{flat_map}
use Rattle.std.proofs.lemmas.List.{take_all}
use Rattle.std.proofs.lemmas.Option.{slice_get-get_or}
use Rattle.hs_text.specs.Report.{step_text}
use Rattle.hs_text.proofs.Puts.{puts_none, puts_then, puts_as, flat_map-more}
use Rattle.hs_text.proofs.summary.push_steps.Goals as goal

pub loop-terminal-init : goal.loop-terminal-init
loop-terminal-init c = puts_none _

pub loop-terminal-preserved : goal.loop-terminal-preserved
loop-terminal-preserved c =
    let steps = c.args.steps.now in
    let n = c.loop-terminal.terminal-index in
    puts_as (flat_map-more (step_text c.args.names.now) steps n (get_or steps n (0, 0)) (slice_get-get_or steps n (0, 0) c.loop-terminal-test.true))
    (puts_then c.loop-terminal.invariant (puts_then (puts_as c.terminal_name.ensures c.push.ensures)
    (puts_then c.push-in-loop-terminal.ensures (puts_then (puts_as (ap decimal c.from.ensures) c.push_number.ensures) c.push-in-loop-terminal-2.ensures))))

pub returns : goal.returns
returns c = puts_as (ap (flat_map (step_text c.args.names.now)) (take_all _ c.args.steps.now c.loop-terminal-test.false)) c.loop-terminal.invariant
