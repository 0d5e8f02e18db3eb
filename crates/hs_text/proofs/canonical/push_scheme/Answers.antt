use Rattle.std.proofs.Common.{ap}
use Rattle.std.specs.List.{flat_map}
use Rattle.hs_text.specs.Canonical.{canonical, rules_text, transition_text}
use Rattle.hs_text.proofs.Puts.{puts_then, puts_as}
use Rattle.hs_text.proofs.canonical.push_scheme.Goals as goal

pub returns : goal.returns
returns c =
    puts_as (ap canonical c.unsorted.view_is)
    (puts_then c.push.ensures (puts_then (puts_as (ap (rules_text c.unsorted.inside.names) c.as_slice.ensures.value) c.push_rules.ensures)
    (puts_then c.push-2.ensures (puts_then (puts_as (ap (flat_map (transition_text c.unsorted.inside.names)) c.transitions.ensures) c.push_transitions.ensures) c.push-3.ensures))))
