use Rattle.std.proofs.Common.{ap}
use Rattle.hs_scheme.specs.Names.{NamesData}
use Rattle.hs_text.specs.Report.{verdict_lines}
use Rattle.hs_text.proofs.Puts.{puts_then, puts_as}
use Rattle.hs_text.proofs.summary.push_summary.Goals as goal

pub returns : goal.returns
returns c = puts_then (puts_as (ap (λ (n : NamesData). verdict_lines n c.args.verdict.now) c.names_of.ensures) c.push_verdict.ensures) (puts_then c.push_line_if.ensures c.push_minimal_if.ensures)
