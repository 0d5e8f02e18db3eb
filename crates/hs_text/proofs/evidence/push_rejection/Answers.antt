use Rattle.std.proofs.Common.{ap}
use Rattle.hs_scheme.specs.Names.{NamesData}
use Rattle.hs_text.specs.Report.{path_lines}
use Rattle.hs_text.proofs.Puts.{puts_then, puts_as}
use Rattle.hs_text.proofs.evidence.push_rejection.Goals as goal

pub returns : goal.returns
returns c =
    puts_then c.push.ensures (puts_then (puts_as (ap (λ (n : NamesData). path_lines n c.args.path.now) c.names_of.ensures) c.push_path.ensures) c.push_line_if.ensures)
