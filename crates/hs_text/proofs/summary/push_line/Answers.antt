use Rattle.hs_text.proofs.Puts.{puts_then}
use Rattle.hs_text.proofs.summary.push_line.Goals as goal

pub returns : goal.returns
returns c = puts_then c.push.ensures (puts_then c.push_number.ensures c.push-2.ensures)
