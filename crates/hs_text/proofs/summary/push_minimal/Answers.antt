use Rattle.std.proofs.Common.{sym, ◌∙◌, ap, codes}
use Rattle.hs_text.specs.Report.{number_line, minimal_line}
use Rattle.hs_text.proofs.Puts.{puts_as}
use Rattle.hs_text.proofs.summary.push_minimal.Goals as goal

pub returns-in-More : goal.returns-in-More
returns-in-More c = puts_as (ap (number_line (codes "minimal more than ")) c.from.ensures ∙ ap minimal_line (sym c.in-More.is)) c.push_line-in-More.ensures
