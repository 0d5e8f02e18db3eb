use Rattle.std.proofs.Common.{ap, decimal}
use Rattle.hs_text.proofs.Puts.{puts_then, puts_as}
use Rattle.hs_text.proofs.table.push_place.Goals as goal

pub returns : goal.returns
returns c =
    puts_then (puts_as (ap decimal c.from.ensures) c.push_number.ensures) (puts_then c.push.ensures (puts_then (puts_as c.rule_name.ensures c.push-2.ensures) c.push-3.ensures))
