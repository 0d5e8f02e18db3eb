use Rattle.std.proofs.Common.{sym, ap}
use Rattle.hs_text.specs.Report.{number_line_if}
use Rattle.hs_text.proofs.Puts.{puts_none, puts_as}
use Rattle.hs_text.proofs.summary.push_line_if.Goals as goal

pub returns-in-Some : goal.returns-in-Some
returns-in-Some c = puts_as (ap (number_line_if c.args.words.now) (sym c.in-Some.is)) c.push_line.ensures

pub returns-in_default : goal.returns-in_default
returns-in_default c = puts_as (ap (number_line_if c.args.words.now) (sym c.in_default.is)) (puts_none _)
