use Rattle.hs_text.proofs.Puts.{puts_then, puts_as}
use Rattle.hs_text.proofs.canonical.push_rule.Goals as goal

pub returns : goal.returns
returns c =
    puts_then (puts_as c.rule_name.ensures c.push.ensures)
    (puts_then c.push-2.ensures (puts_then c.push_params.ensures (puts_then c.push-3.ensures (puts_then c.push_term.ensures c.push-4.ensures))))
