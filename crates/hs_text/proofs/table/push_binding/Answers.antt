use Rattle.std.proofs.Common.{ap}
use Rattle.hs_text.specs.Report.{set_text, binding_text}
use Rattle.hs_text.proofs.Puts.{puts_then, puts_as}
use Rattle.hs_text.proofs.table.push_binding.Goals as goal

pub returns : goal.returns
returns c =
    puts_as (ap (λ set. binding_text c.args.states.now c.args.params.now (c.args.number, set)) c.set.view_is)
    (puts_then (puts_as c.name_of.ensures c.push.ensures) (puts_then c.push-2.ensures (puts_as (ap (set_text c.args.states.now) c.as_slice.ensures.value) c.push_set.ensures)))
