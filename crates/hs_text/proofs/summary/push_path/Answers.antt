use Rattle.std.proofs.Common.{ap}
use Rattle.std.specs.List.{flat_map}
use Rattle.hs_text.specs.Report.{step_text, path_lines}
use Rattle.hs_text.proofs.Puts.{puts_then, puts_as}
use Rattle.hs_text.proofs.summary.push_path.Goals as goal

pub returns : goal.returns
returns c =
    puts_as (ap (path_lines c.args.names.now) c.path.view_is)
    (puts_then c.push.ensures (puts_then (puts_as (ap (flat_map (step_text c.args.names.now)) c.as_slice.ensures.value) c.push_steps.ensures)
    (puts_then (puts_as c.terminal_name.ensures c.push-2.ensures) (puts_then c.push-3.ensures (puts_then (puts_as c.state_name.ensures c.push-4.ensures) c.push-5.ensures)))))
