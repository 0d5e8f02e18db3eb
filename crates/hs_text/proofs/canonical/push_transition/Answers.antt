use Rattle.std.proofs.Common.{ap}
use Rattle.hs_text.specs.Canonical.{states_text, transition_text}
use Rattle.hs_text.proofs.Puts.{puts_then, puts_as}
use Rattle.hs_text.proofs.canonical.push_transition.Goals as goal

pub returns : goal.returns
returns c =
    puts_as (ap (transition_text c.args.names.now) c.transition.view_is)
    (puts_then (puts_as c.state_name.ensures c.push.ensures)
    (puts_then c.push-2.ensures (puts_then (puts_as c.terminal_name.ensures c.push-3.ensures) (puts_then c.push-4.ensures (puts_then (puts_as (ap (states_text c.args.names.now) c.as_slice.ensures.value) c.push_states.ensures) c.push-5.ensures)))))
