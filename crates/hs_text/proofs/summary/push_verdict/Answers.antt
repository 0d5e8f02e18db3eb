use Rattle.std.proofs.Common.{sym, ap}
use Rattle.hs_text.specs.Report.{verdict_lines}
use Rattle.hs_text.proofs.Puts.{puts_then, puts_as}
use Rattle.hs_text.proofs.summary.push_verdict.Goals as goal

pub returns-in-Accepted : goal.returns-in-Accepted
returns-in-Accepted c = puts_as (ap (verdict_lines c.args.names.now) (sym c.in-Accepted.is)) (puts_then c.push_head.ensures c.push_line.ensures)

pub returns-in-Rejected : goal.returns-in-Rejected
returns-in-Rejected c = puts_as (ap (verdict_lines c.args.names.now) (sym c.in-Rejected.is)) (puts_then c.push_head-in-Rejected.ensures c.push_path.ensures)

pub returns-in-Long : goal.returns-in-Long
returns-in-Long c =
    puts_as (ap (verdict_lines c.args.names.now) (sym c.in-Long.is))
    (puts_then c.push_head-in-Long.ensures (puts_then c.push.ensures (puts_then c.push_number.ensures c.push-in-Long.ensures)))
