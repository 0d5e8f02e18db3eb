use Rattle.std.proofs.Common.{ap, codes}
use Rattle.hs_text.specs.Report.{number_line}
use Rattle.hs_text.proofs.Puts.{puts_then, puts_as}
use Rattle.hs_text.proofs.summary.push_head.Goals as goal

pub returns : goal.returns
returns c = puts_then c.push.ensures (puts_as (ap (number_line (codes "entries ")) c.from.ensures) c.push_line.ensures)
