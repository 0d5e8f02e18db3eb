use Rattle.std.proofs.Common.{ap}
use Rattle.hs_scheme.specs.Names.{NamesData}
use Rattle.hs_text.specs.Report.{void_text}
use Rattle.hs_text.proofs.Puts.{puts_then, puts_as}
use Rattle.hs_text.proofs.evidence.push_void_line.Goals as goal

pub returns : goal.returns
returns c = puts_then (puts_as (ap (λ (n : NamesData). void_text n c.args.void.now) c.names_of.ensures) c.push_pair.ensures) c.push.ensures
