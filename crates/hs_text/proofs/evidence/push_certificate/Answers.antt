use Rattle.hs_text.proofs.Puts.{puts_then}
use Rattle.hs_text.proofs.evidence.push_certificate.Goals as goal

pub returns : goal.returns
returns c = puts_then c.push.ensures (puts_then c.push_line.ensures (puts_then c.push_line-2.ensures c.push_line_if.ensures))
